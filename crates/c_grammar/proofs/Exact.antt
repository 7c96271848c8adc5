-- The descent is done with the tree of a file of which no token is refused, and stops at the first token that is
-- refused, for the reason that it is.
use Rattle.std.proofs.Common.{◌≡◌, List, [], ◌∷◌, ◌++◌, refl, sym, ap, ◌∙◌, subst, ◌⊎◌, inl, inr, append_assoc, append-nil}
use Rattle.std.proofs.lemmas.List.{append_cancel_right}
use Rattle.c_syntax_written.specs.declared.construct.Construct.{Construct}
use Rattle.c_syntax_written.specs.declared.token.Placed.{Placed}
use Rattle.c_syntax_written.specs.WrittenFile.{OuterTree, FileTree}
use Rattle.c_grammar.specs.Parts.{Outers}
use Rattle.c_grammar.specs.Grammar.{Derives, at_start}
use Rattle.c_grammar.specs.Front.{Place, StandsAt, Starts}
use Rattle.c_grammar.specs.Refused.{Why, Syntax, Unsupported, TooDeep, Bears, IsDeep, Because, NoneRefused, IsFile, IsRefused}
use Rattle.c_grammar.specs.Descent.{Outcome, Done, Stop}
use Rattle.c_grammar.proofs.Table.{Table}
use Rattle.c_grammar.proofs.Tails.{Tail, same, behind, Past, past, past_same, tail_trans, tail_split, tail_front, front_tail, compare}
use Rattle.c_grammar.proofs.Seen.{seen, goes_tail}
use Rattle.c_grammar.proofs.Steps.{halts, end_of}
use Rattle.c_grammar.proofs.Places.{reads_back}
use Rattle.c_grammar.proofs.Only.{only_outcome}
use Rattle.c_grammar.proofs.Asks.{end_rest}
use Rattle.c_grammar.proofs.Whole.{file_end, file_stands, stop_stands}
use Rattle.c_grammar.proofs.Refusals.{Runs, Says, stop_says, deep_end, borne_end, early_past, end_past, read_end}

runs_at : {x y : List Placed} {o : Outcome (List OuterTree)} → x ≡ y → Runs x o → Runs y o
runs_at {x} {y} {o} e g = subst (λ v. Runs v o) e g

stands_on : {x y rest : List Placed} {at : Place} → x ≡ y → StandsAt x rest at → StandsAt y rest at
stands_on {x} {y} {rest} {at} e s = subst (λ v. StandsAt v rest at) e s

-- what stands open stands open before each of its tokens
reach : {ts rest : List Placed} {at : Place} (s : List Placed) → StandsAt ts rest at → Tail rest s → Tail s ts → (place : Place) × StandsAt ts s place
reach {ts} {rest} {at} s r x y = elim (tail_split x) [ inl e ↦ (at, subst (λ v. StandsAt ts v at) e r) | inr z ↦ before s r z y ]
  where
    before : {ts rest : List Placed} {at : Place} (s : List Placed) → StandsAt ts rest at → Past rest s → Tail s ts → (place : Place) × StandsAt ts s place
    before [] r x y = elim x [ ]
    before (u ∷ us) r (past z) y = let i = reads_back r u us z y in (i.at, i.reads)

-- no tree where the descent stops
stop_no_tree : (table : Table) {tokens rest : List Placed} {why : Why} {v : List OuterTree} → Runs tokens (Stop why rest) → Derives at_start (Outers []) tokens [] v → Past [] rest
stop_no_tree table g d = elim (only_outcome table d tt 0 _ g) [ inl e ↦ absurd cc | inr x ↦ x ]

tree_on : {x y : List Placed} {v : List OuterTree} → x ≡ y → Derives at_start (Outers []) x [] v → Derives at_start (Outers []) y [] v
tree_on {x} {y} {v} e d = subst (λ z. Derives at_start (Outers []) z [] v) e d

not_started : (table : Table) (front : List Placed) (t : Placed) (rest : List Placed) {o : Outcome (List OuterTree)} → Runs (front ++ t ∷ rest) o → end_of o ≡ halts Syntax (t ∷ rest) → Starts (front ++ t ∷ []) rest → ⊥
not_started table front t rest g e s =
    let r = stands_on (append_assoc front (t ∷ []) rest) s.1 in
    read_end table g (reads_back r t rest same (front_tail front (t ∷ rest))) e

deep_why : (table : Table) {front : List Placed} {t : Placed} {rest : List Placed} {why : Why} → Runs (front ++ t ∷ rest) (Stop why (t ∷ rest)) → IsDeep front t rest → why ≡ TooDeep
deep_why table g i = elim (deep_end table g i) [ inl x ↦ absurd (past_same x refl) | inr e ↦ cc ]

borne_why : (table : Table) {front : List Placed} {t : Placed} {rest : List Placed} {why : Why} {c : Construct} → Runs (front ++ t ∷ rest) (Stop why (t ∷ rest)) → Bears front t rest c → (why ≡ TooDeep) ⊎ (why ≡ Unsupported c)
borne_why table g i = elim (borne_end table g i) [ inl (inl x) ↦ absurd (past_same x refl) | inl (inr e) ↦ inl cc | inr e ↦ inr cc ]

because_says : (table : Table) (front rest : List Placed) (why : Why) → Runs (front ++ rest) (Stop why rest) → Says front rest why → Starts front rest → Because front rest why
because_says table front [] Syntax g h s = (s, λ file d. past_same (stop_no_tree table g (tree_on (sym (append-nil front)) d)) refl)
because_says table front [] (Unsupported c) g h s = h
because_says table front [] TooDeep g h s = h
because_says table front (t ∷ rest) Syntax g h s = ((s, λ r. not_started table front t rest g refl r), (λ i. let e = deep_why table g i in absurd cc), (λ c i. elim (borne_why table g i) [ inl e ↦ absurd cc | inr e ↦ absurd cc ]))
because_says table front (t ∷ rest) (Unsupported c) g h s = (h, λ i. let e = deep_why table g i in absurd cc)
because_says table front (t ∷ rest) TooDeep g h s = h

pub because_stop : (table : Table) (front rest : List Placed) (why : Why) → Runs (front ++ rest) (Stop why rest) → Because front rest why
because_stop table front rest why g = let i = stop_stands table g in because_says table front rest why g (stop_says front i.at i.forms i.count i.reason i.reads) (i.at, i.reads)

none_at : (table : Table) (front : List Placed) (t : Placed) (rest : List Placed) (why : Why) {o : Outcome (List OuterTree)} → Runs (front ++ t ∷ rest) o → Past (end_rest (end_of o)) (t ∷ rest) → Starts (front ++ t ∷ []) rest → Because front (t ∷ rest) why → ⊥
none_at table front t rest Syntax g x s b = b.0.1 s
none_at table front t rest (Unsupported c) {o} g x s b = elim (borne_end table g b.0) [ inl (inl y) ↦ early_past (end_of o) y x | inl (inr e) ↦ end_past TooDeep e x | inr e ↦ end_past (Unsupported c) e x ]
none_at table front t rest TooDeep {o} g x s b = elim (deep_end table g b) [ inl y ↦ early_past (end_of o) y x | inr e ↦ end_past TooDeep e x ]

none_refused : (table : Table) {front rest : List Placed} {at : Place} {o : Outcome (List OuterTree)} → Runs (front ++ rest) o → StandsAt (front ++ rest) rest at → Tail (end_rest (end_of o)) rest → NoneRefused front rest
none_refused table {front} {rest} {at} {o} g r x before t after e why b =
    let f : front ++ rest ≡ before ++ t ∷ (after ++ rest) = ap (λ v. v ++ rest) e ∙ append_assoc before (t ∷ after) rest in
    let y = front_tail after rest in
    let i = reach (after ++ rest) (stands_on f r) y (tail_trans (behind same) (front_tail before (t ∷ (after ++ rest)))) in
    none_at table before t (after ++ rest) why (runs_at f g) (past (tail_trans x y)) (i.0, stands_on (sym (append_assoc before (t ∷ []) (after ++ rest))) i.1) b

pub exact_stop : (table : Table) {tokens rest : List Placed} {why : Why} → Runs tokens (Stop why rest) → IsRefused tokens rest why
exact_stop table {tokens} {rest} {why} g =
    let f = tail_front (goes_tail g) in
    let h = runs_at f.1 g in
    let i = stop_stands table h in
    record { front = f.0; splits = f.1; because = because_stop table f.0 rest why h; first = none_refused table h i.reads same }

pub exact_end : (table : Table) {tokens rest : List Placed} {outers : List OuterTree} → Runs tokens (Done outers rest) → rest ≡ []
exact_end table g = file_end table (seen g)

done_at : {tokens rest : List Placed} {outers : List OuterTree} → rest ≡ [] → Runs tokens (Done outers rest) → Runs tokens (Done outers [])
done_at {tokens} {rest} {outers} e g = subst (λ v. Runs tokens (Done outers v)) e g

pub exact_done : (table : Table) {tokens rest : List Placed} {outers : List OuterTree} → Runs tokens (Done outers rest) → IsFile tokens (record { outers = outers })
exact_done table {tokens} g =
    let h = done_at (exact_end table g) g in
    let e = sym (append-nil tokens) in
    let i = file_stands table (seen h) in
    (seen h, none_refused table (runs_at e h) (stands_on e i.1) same)

-- a refused token of a text of which none is
refused_none : {tokens : List Placed} (front : List Placed) (t : Placed) (rest : List Placed) (why : Why) → tokens ≡ front ++ t ∷ rest → Because front (t ∷ rest) why → NoneRefused tokens [] → ⊥
refused_none front t rest why e b h = h front t rest e why (subst (λ v. Because front (t ∷ v) why) (sym (append-nil rest)) b)

file_refused : (tokens rest : List Placed) (why : Why) (file : FileTree) → IsFile tokens file → IsRefused tokens rest why → ⊥
file_refused tokens [] Syntax file f i = i.because.1 file (tree_on (i.splits ∙ append-nil i.front) f.0)
file_refused tokens [] (Unsupported c) file f i = i.because
file_refused tokens [] TooDeep file f i = i.because
file_refused tokens (t ∷ rest) why file f i = refused_none i.front t rest why i.splits i.because f.1

pub only_done : (table : Table) {tokens : List Placed} {file : FileTree} (o : Outcome (List OuterTree)) → IsFile tokens file → Runs tokens o → o ≡ Done file.outers []
only_done table (Done v rest) f g = elim (only_outcome table f.0 tt 0 (Done v rest) g) [ inl e ↦ e | inr x ↦ absurd x ]
only_done table {tokens} {file} (Stop why rest) f g = absurd (file_refused tokens rest why file f (exact_stop table g))

-- the first refused token is one
first_one : {tokens : List Placed} (a b : List Placed) {why other : Why} → IsRefused tokens a why → IsRefused tokens b other → Past b a → ⊥
first_one [] b i j x = elim x [ ]
first_one {tokens} (t ∷ rest) b {why} {other} i j (past x) =
    let f = tail_front x in
    let e : j.front ++ b ≡ (i.front ++ t ∷ f.0) ++ b = sym j.splits ∙ i.splits ∙ ap (λ v. i.front ++ t ∷ v) f.1 ∙ sym (append_assoc i.front (t ∷ f.0) b) in
    j.first i.front t f.0 (append_cancel_right j.front (i.front ++ t ∷ f.0) b e) why (subst (λ v. Because i.front (t ∷ v) why) f.1 i.because)

same_why : (table : Table) (front rest : List Placed) (why other : Why) → Because front rest why → Runs (front ++ rest) (Stop other rest) → Because front rest other → other ≡ why
same_why table front [] Syntax Syntax b g c = refl
same_why table front [] Syntax (Unsupported d) b g c = absurd c
same_why table front [] Syntax TooDeep b g c = absurd c
same_why table front [] (Unsupported d) other b g c = absurd b
same_why table front [] TooDeep other b g c = absurd b
same_why table front (t ∷ rest) Syntax Syntax b g c = refl
same_why table front (t ∷ rest) Syntax (Unsupported d) b g c = absurd (b.2 d c.0)
same_why table front (t ∷ rest) Syntax TooDeep b g c = absurd (b.1 c)
same_why table front (t ∷ rest) (Unsupported d) Syntax b g c = absurd (c.2 d b.0)
same_why table front (t ∷ rest) (Unsupported d) (Unsupported e) b g c = elim (borne_why table g b.0) [ inl h ↦ absurd cc | inr h ↦ h ]
same_why table front (t ∷ rest) (Unsupported d) TooDeep b g c = absurd (b.1 c)
same_why table front (t ∷ rest) TooDeep other b g c = deep_why table g b

stop_on : {tokens r rest : List Placed} {why : Why} → r ≡ rest → Runs tokens (Stop why r) → Runs tokens (Stop why rest)
stop_on {tokens} {r} {rest} {why} e g = subst (λ v. Runs tokens (Stop why v)) e g

refused_tail : {tokens rest : List Placed} {why : Why} → IsRefused tokens rest why → Tail rest tokens
refused_tail {tokens} {rest} i = subst (λ v. Tail rest v) (sym i.splits) (front_tail i.front rest)

-- the two refusals are at one place
one_place : (tokens a b : List Placed) (why other : Why) → IsRefused tokens a why → IsRefused tokens b other → b ≡ a
one_place tokens a b why other i j =
    elim (compare (refused_tail i) (refused_tail j)) [
      | inl x ↦ elim (tail_split x) [ inl e ↦ sym e | inr y ↦ absurd (first_one b a j i y) ]
      | inr y ↦ absurd (first_one a b i j y)
    ]

pub only_stop : (table : Table) {tokens rest : List Placed} {why : Why} (o : Outcome (List OuterTree)) → IsRefused tokens rest why → Runs tokens o → o ≡ Stop why rest
only_stop table {tokens} {rest} {why} (Done v r) i g = absurd (file_refused tokens rest why (record { outers = v }) (exact_done table g) i)
only_stop table {tokens} {rest} {why} (Stop other r) i g =
    let e : r ≡ rest = one_place tokens rest r why other i (exact_stop table g) in
    let h = runs_at i.splits (stop_on e g) in
    let f : other ≡ why = same_why table i.front rest why other i.because h (because_stop table i.front rest other h) in
    cc

-- one tree, one refusal, and not both
pub one_file : (table : Table) {tokens : List Placed} {a b : FileTree} (o : Outcome (List OuterTree)) → Runs tokens o → IsFile tokens a → IsFile tokens b → a ≡ b
one_file table {tokens} {a} {b} o g f h =
    let x = only_done table o f g in
    let y = only_done table o h g in
    let e : a.outers ≡ b.outers = cc in
    ap (λ v. record { outers = v }) e

pub one_refusal : (table : Table) {tokens a b : List Placed} {why other : Why} (o : Outcome (List OuterTree)) → Runs tokens o → IsRefused tokens a why → IsRefused tokens b other → (a ≡ b) × (why ≡ other)
one_refusal table o g i j =
    let x = only_stop table o i g in
    let y = only_stop table o j g in
    (cc, cc)

pub not_both : {tokens rest : List Placed} {why : Why} {file : FileTree} → IsFile tokens file → IsRefused tokens rest why → ⊥
not_both {tokens} {rest} {why} {file} f i = file_refused tokens rest why file f i
