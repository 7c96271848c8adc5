-- A whole file: it ends with the tokens, and stands open there. The descent over it from its start.
use Rattle.std.proofs.Common.{◌≡◌, ℕ, true, false, List, [], ◌∷◌, refl, sym, ◌∙◌, subst, arith}
use Rattle.c_syntax_written.specs.declared.token.Placed.{Placed}
use Rattle.c_syntax_written.specs.WrittenFile.{OuterTree}
use Rattle.c_grammar.specs.Parts.{Scene, Part, AnOuter, Outer, Outers, Value}
use Rattle.c_grammar.specs.Process.{Process, give, part, only}
use Rattle.c_grammar.specs.Ahead.{at_end}
use Rattle.c_grammar.specs.FileRules.{after_outer}
use Rattle.c_grammar.specs.FileRules as files
use Rattle.c_grammar.specs.Grammar.{Produces, file_rule, Derives, Spells, by, ended, token_then, part_then, where_so, at_start}
use Rattle.c_grammar.specs.Front.{Front, Reads, Place, a_part, deeper, in_part, at_part, inside, behind_part, StandsAt}
use Rattle.c_grammar.specs.Refused.{Why}
use Rattle.c_grammar.specs.Descent.{Outcome, Done, Stop, Goes, Follows, is_done, goes_on, stops}
use Rattle.c_grammar.proofs.Table.{Begins, Leads, Quiet, WellFollowed, well_give, well_part, FileShape, file_ends, file_goes_on, Table}
use Rattle.c_grammar.proofs.Steps.{end_of}
use Rattle.c_grammar.proofs.Asks.{Asks, Judged}
use Rattle.c_grammar.proofs.Judged.{judged_reads}
use Rattle.c_grammar.proofs.Stops.{StopsIn, stops_at}

-- the rest of a file
abbrev IsOuters : Part → Type 0
IsOuters (Outers before) = Unit {0}
IsOuters _ = ⊥

-- what comes last is the rest of a file
data Last : (p : Part) → Process (Value p) → Type 0 where
  last_part : {p i : Part} {n : ℕ} {s : Scene} {k : Value i → Process (Value p)} → IsOuters i → ((a : Value i) → (v : Value p) × (k a ≡ give v)) → Last p (part n s i k)

-- nothing comes, at the end, or another part, and then the rest of a file
data Rest : (p : Part) → Process (Value p) → Type 0 where
  rest_ends : {p : Part} {v : Value p} → Rest p (only at_end (give v))
  rest_goes_on : {p i : Part} {n : ℕ} {s : Scene} {k : Value i → Process (Value p)} → ((a : Value i) → Last p (k a)) → Rest p (part n s i k)

shape_rest : {w : Scene} {before : List OuterTree} {q : Process (List OuterTree)} → FileShape w before q → Rest (Outers before) q
shape_rest file_ends = rest_ends
shape_rest file_goes_on = rest_goes_on (λ a. last_part tt (λ b. (b, refl)))

rule_rest : (table : Table) {w : Scene} (p : Part) (q : Process (Value p)) → IsOuters p → Produces w p q → Rest p q
rule_rest table (Outers before) q o rule = shape_rest (table.file_shape rule)
rule_rest table p q o rule = absurd o

-- the rest of a file may always go on
more_front : (w : Scene) (p : Part) (ts : List Placed) → IsOuters p → (at : Place) × Front w p ts ts at
more_front w (Outers before) ts o = (record { scene = w; count = 0; next = a_part (AnOuter Outer); begun = false }, in_part (file_rule files.file_more) at_part)
more_front w p ts o = absurd o

end_is : (ts : List Placed) → at_end ts ≡ true → ts ≡ []
end_is [] e = refl
end_is (t ∷ ts) e = absurd cc

give_rest : {w : Scene} {p : Part} {v u : Value p} {ts rest : List Placed} → Spells w p (give v) ts rest u → ts ≡ rest
give_rest ended = refl

give_value : {w : Scene} {p : Part} {v u : Value p} {ts rest : List Placed} → Spells w p (give v) ts rest u → v ≡ u
give_value ended = refl

given_rest : {w : Scene} {p : Part} {q : Process (Value p)} {v u : Value p} {ts rest : List Placed} → q ≡ give v → Spells w p q ts rest u → ts ≡ rest
given_rest {w} {p} {q} {v} {u} {ts} {rest} e s = give_rest (subst (λ z. Spells w p z ts rest u) e s)

mutual
  ends_derives : (table : Table) {w : Scene} {p : Part} {ts rest : List Placed} {v : Value p} → Derives w p ts rest v → IsOuters p → rest ≡ []
  ends_derives table (by {p = p} {q = q} rule s) o = ends_spells table s (rule_rest table p q o rule)

  ends_spells : (table : Table) {w : Scene} {p : Part} {q : Process (Value p)} {ts rest : List Placed} {v : Value p} → Spells w p q ts rest v → Rest p q → rest ≡ []
  ends_spells table ended r = elim r [ ]
  ends_spells table (token_then f s) r = elim r [ ]
  ends_spells table (where_so {ts = ts} e s) rest_ends = sym (give_rest s) ∙ end_is ts e
  ends_spells table (part_then {a = a} d s) (rest_goes_on h) = ends_last table s (h a)

  ends_last : (table : Table) {w : Scene} {p : Part} {q : Process (Value p)} {ts rest : List Placed} {v : Value p} → Spells w p q ts rest v → Last p q → rest ≡ []
  ends_last table ended r = elim r [ ]
  ends_last table (token_then f s) r = elim r [ ]
  ends_last table (where_so e s) r = elim r [ ]
  ends_last table (part_then {a = a} d s) (last_part o g) = sym (given_rest (g a).1 s) ∙ ends_derives table d o

record OpenAt (w : Scene) (p : Part) (ts rest : List Placed) : Type 0 where
  at : Place
  front : Front w p ts rest at

open_here : {w : Scene} (p : Part) {ts rest : List Placed} → IsOuters p → ts ≡ rest → OpenAt w p ts rest
open_here {w} p {ts} {rest} o e = let f = more_front w p ts o in record { at = f.0; front = subst (λ z. Front w p ts z f.0) e f.1 }

inside_at : {w s : Scene} {p i : Part} {n : ℕ} {k : Value i → Process (Value p)} {ts mid rest : List Placed} → mid ≡ rest → OpenAt s i ts mid → (at : Place) × Reads true w p (part n s i k) ts rest at
inside_at {w} {s} {p} {i} {n} {k} {ts} {mid} {rest} e f = (deeper n f.at, subst (λ z. Reads true w p (part n s i k) ts z (deeper n f.at)) e (inside f.front))

data RestOpen (w : Scene) (p : Part) (q : Process (Value p)) (ts rest : List Placed) : Type 0 where
  rest_same : ts ≡ rest → RestOpen w p q ts rest
  rest_open : (at : Place) → Reads false w p q ts rest at → RestOpen w p q ts rest

open_rule : {w : Scene} {p : Part} {q : Process (Value p)} {ts rest : List Placed} → Produces w p q → IsOuters p → RestOpen w p q ts rest → OpenAt w p ts rest
open_rule {p = p} rule o (rest_same e) = open_here p o e
open_rule rule o (rest_open at r) = record { at = at; front = in_part rule r }

mutual
  open_derives : (table : Table) {w : Scene} {p : Part} {ts rest : List Placed} {v : Value p} → Derives w p ts rest v → IsOuters p → OpenAt w p ts rest
  open_derives table (by {p = p} {q = q} rule s) o = open_rule rule o (open_spells table s (rule_rest table p q o rule))

  open_spells : (table : Table) {w : Scene} {p : Part} {q : Process (Value p)} {ts rest : List Placed} {v : Value p} → Spells w p q ts rest v → Rest p q → RestOpen w p q ts rest
  open_spells table ended r = elim r [ ]
  open_spells table (token_then f s) r = elim r [ ]
  open_spells table (where_so e s) rest_ends = rest_same (give_rest s)
  open_spells table (part_then {a = a} d s) (rest_goes_on h) = let i = open_last table s (h a) in rest_open i.0 (behind_part d i.1)

  open_last : (table : Table) {w : Scene} {p : Part} {q : Process (Value p)} {ts rest : List Placed} {v : Value p} → Spells w p q ts rest v → Last p q → (at : Place) × Reads true w p q ts rest at
  open_last table ended r = elim r [ ]
  open_last table (token_then f s) r = elim r [ ]
  open_last table (where_so e s) r = elim r [ ]
  open_last table (part_then {a = a} d s) (last_part o g) = inside_at (given_rest (g a).1 s) (open_derives table d o)

pub file_end : (table : Table) {ts rest : List Placed} {v : List OuterTree} → Derives at_start (Outers []) ts rest v → rest ≡ []
file_end table d = ends_derives table d tt

-- the tokens of a whole file stand open at their end
pub file_stands : (table : Table) {ts rest : List Placed} {v : List OuterTree} → Derives at_start (Outers []) ts rest v → (at : Place) × StandsAt ts rest at
file_stands table d = let i = open_derives table d tt in (deeper 0 i.at, inside i.front)

-- the descent from the start
no_leads : {begins : Begins} {w : Scene} {p : Part} {v : Value p} {ts : List Placed} → Leads begins w p (give v) ts → ⊥
no_leads l = elim l [ ]

give_quiet : (table : Table) (w : Scene) (p : Part) (a v : Value p) (ts : List Placed) → Spells w p (give a) ts ts v → Quiet table.continues w p v ts → Quiet table.continues w p a ts
give_quiet table w p a v ts s h = subst (λ z. Quiet table.continues w p z ts) (sym (give_value s)) h

well_start : (table : Table) → WellFollowed table.begins table.continues at_start (Outers []) (part 0 at_start (Outers []) give)
well_start table = well_part (λ a. ((λ ts l. absurd (no_leads l)), (λ ts v s h. give_quiet table at_start (Outers []) a v ts s h))) (λ a. tt) (λ a. well_give)

start_follows : {tokens : List Placed} (o : Outcome (List OuterTree)) → Goes 0 at_start (Outers []) tokens o → Follows 0 at_start (Outers []) (part 0 at_start (Outers []) give) tokens o
start_follows (Done v r) g = goes_on g is_done
start_follows (Stop why r) g = stops g

pub judge : (table : Table) {tokens rest : List Placed} {at : Place} {o : Outcome (List OuterTree)} → Goes 0 at_start (Outers []) tokens o → StandsAt tokens rest at → (a : Asks at.scene at.next at.begun at.count rest) → Judged a (end_of o)
judge table {at = at} {o = o} g r a = judged_reads table r (well_start table) 0 o (start_follows o g) at.count (omega arith) a

pub stop_stands : (table : Table) {tokens rest : List Placed} {why : Why} → Goes 0 at_start (Outers []) tokens (Stop why rest) → StopsIn true 0 at_start (Outers []) (part 0 at_start (Outers []) give) tokens rest why
stop_stands table {tokens} {rest} {why} g = stops_at table (start_follows (Stop why rest) g)
