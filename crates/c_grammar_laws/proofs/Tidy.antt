-- Productions whose trees have the places of their tokens, and of the trees of their parts, in the order in which these are read.
use Rattle.std.proofs.Common.{◌≡◌, ℕ, Bool, List, [], ◌∷◌, ◌++◌, refl, sym, ap, subst, ◌∙◌}
use Rattle.std.proofs.lemmas.List.{append-nil, append_assoc}
use Rattle.c_syntax_written.specs.declared.place.Pos.{Pos}
use Rattle.c_syntax_written.specs.declared.token.Placed.{Placed}
use Rattle.c_grammar.specs.Parts.{Scene, Part, Value, AnExpr, AStmt, ADecl, AnOuter, Arguments, MoreArguments, Initialiser, Initialisers, MoreInitialisers, NextInitialiser, Optionally, ForStart, Items, Item, Outers, More, Assigned, Chosen, Suffixes, Texts, Sized, Else, Initial, Ending}
use Rattle.c_grammar.specs.declared.class.Class.{Class}
use Rattle.c_grammar.specs.Process.{Process, give, token, part, only}
use Rattle.c_grammar.specs.Grammar.{Produces, Derives, Spells, by, ended, token_then, part_then, where_so}
use Rattle.c_grammar_laws.specs.NodePlaces.{expr_places, exprs_places, places_if_there, init_places, inits_places, declarators_places, decl_places, start_places, stmt_places, item_places, items_places, outer_places, outers_places}
use Rattle.c_grammar_laws.proofs.ReadPlaces.{Reads, none, skips, takes, then_reads, derives_none}

-- the places in what a part stands for
abbrev pub places_in : (p : Part) → Value p → List Pos
places_in (AnExpr p) v = expr_places v
places_in (AStmt p) v = stmt_places v
places_in (ADecl p) v = decl_places v
places_in (AnOuter p) v = outer_places v
places_in Arguments v = exprs_places v
places_in (MoreArguments before) v = exprs_places v
places_in Initialiser v = init_places v
places_in Initialisers v = inits_places v
places_in (MoreInitialisers before) v = inits_places v
places_in (NextInitialiser before) v = inits_places v
places_in (Optionally p) v = places_if_there v
places_in ForStart v = start_places v
places_in (Items before) v = items_places v
places_in Item v = item_places v
places_in (Outers before) v = outers_places v
places_in p v = []

-- the places in what was read before a part
abbrev pub places_before : Part → List Pos
places_before (AnExpr (More l left)) = expr_places left
places_before (AnExpr (Assigned left)) = expr_places left
places_before (AnExpr (Chosen condition)) = expr_places condition
places_before (AnExpr (Suffixes base)) = expr_places base
places_before (AnExpr (Texts at bytes)) = at ∷ []
places_before (AnExpr (Sized at)) = at ∷ []
places_before (AStmt (Else at condition first)) = at ∷ expr_places condition ++ stmt_places first
places_before (ADecl (Initial specs before declarator)) = declarators_places before
places_before (ADecl (Ending specs before)) = declarators_places before
places_before (MoreArguments before) = exprs_places before
places_before (MoreInitialisers before) = inits_places before
places_before (NextInitialiser before) = inits_places before
places_before (Items before) = items_places before
places_before (Outers before) = outers_places before
places_before p = []

-- Behind these places, what is left of a production makes a tree of the places before the part, these, and those that are still read.
pub data Tidy (p : Part) : List Pos → Process (Value p) → Type 0 where
  tidy_give : {new : List Pos} {v : Value p} → places_in p v ≡ places_before p ++ new → Tidy p new (give v)
  tidy_token : {new : List Pos} {n : ℕ} {c : Class} {k : Placed → Process (Value p)} → ((t : Placed) → Tidy p (new ++ t.pos ∷ []) (k t)) → Tidy p new (token n c k)
  tidy_sign : {new : List Pos} {n : ℕ} {c : Class} {k : Placed → Process (Value p)} → ((t : Placed) → Tidy p new (k t)) → Tidy p new (token n c k)
  tidy_part : {new : List Pos} {n : ℕ} {s : Scene} {i : Part} {k : Value i → Process (Value p)}
      → ((a : Value i) (more : List Pos) → places_in i a ≡ places_before i ++ more → Tidy p (new ++ more) (k a)) → Tidy p new (part n s i k)
  tidy_quiet : {new : List Pos} {n : ℕ} {s : Scene} {i : Part} {k : Value i → Process (Value p)} → ((a : Value i) → Tidy p new (k a)) → Tidy p new (part n s i k)
  tidy_only : {new : List Pos} {f : List Placed → Bool} {q : Process (Value p)} → Tidy p new q → Tidy p new (only f q)

-- a part of which nothing was read before
pub tidy_new : {p : Part} {new : List Pos} {n : ℕ} {s : Scene} {i : Part} {k : Value i → Process (Value p)} → places_before i ≡ [] → ((a : Value i) → Tidy p (new ++ places_in i a) (k a)) → Tidy p new (part n s i k)
tidy_new {p} {new} {i = i} {k = k} e f =
    tidy_part (λ a more is. subst (λ ps. Tidy p (new ++ ps) (k a)) (is ∙ ap (λ ps. ps ++ more) e) (f a))

-- the part that goes on with what was read, and gives the whole
pub tidy_last :
    {p : Part} {new : List Pos} {n : ℕ} {s : Scene} {i : Part} {k : Value i → Process (Value p)} → places_before i ≡ places_before p ++ new
    → ((a : Value i) → (v : Value p) × (k a ≡ give v) × (places_in p v ≡ places_in i a)) → Tidy p new (part n s i k)
tidy_last {p} {new} {i = i} {k = k} e f =
    tidy_part (λ a more is.
    subst (λ q. Tidy p (new ++ more) q) (sym (f a).1)
    (tidy_give ((f a).2 ∙ is ∙ ap (λ ps. ps ++ more) e ∙ append_assoc (places_before p) new more)))

-- the places in a tree are those that were read before, these, and places of the tokens that are read
pub record Gives (p : Part) (new : List Pos) (ts rest : List Placed) (v : Value p) : Type 0 where
  pub more : List Pos
  pub is : places_in p v ≡ places_before p ++ (new ++ more)
  pub reads : Reads more ts rest

gives_token : {p : Part} {new : List Pos} {t : Placed} {ts rest : List Placed} {v : Value p} → Gives p (new ++ t.pos ∷ []) ts rest v → Gives p new (t ∷ ts) rest v
gives_token {p} {new} {t} g = record { more = t.pos ∷ g.more; is = g.is ∙ ap (λ ps. places_before p ++ ps) (append_assoc new (t.pos ∷ []) g.more); reads = takes g.reads }

gives_skip : {p : Part} {new : List Pos} {t : Placed} {ts rest : List Placed} {v : Value p} → Gives p new ts rest v → Gives p new (t ∷ ts) rest v
gives_skip g = record { more = g.more; is = g.is; reads = skips g.reads }

gives_behind : {p : Part} {new ps : List Pos} {ts mid rest : List Placed} {v : Value p} → Reads ps ts mid → Gives p (new ++ ps) mid rest v → Gives p new ts rest v
gives_behind {p} {new} {ps} r g =
    record { more = ps ++ g.more; is = g.is ∙ ap (λ xs. places_before p ++ xs) (append_assoc new ps g.more); reads = then_reads r g.reads }

gives_quiet : {p : Part} {new : List Pos} {ts mid rest : List Placed} {v : Value p} → Reads [] ts mid → Gives p new mid rest v → Gives p new ts rest v
gives_quiet r g = record { more = g.more; is = g.is; reads = then_reads r g.reads }

-- each production is such
pub record AreTidy : Type 0 where
  pub produces : {w : Scene} {p : Part} {q : Process (Value p)} → Produces w p q → Tidy p [] q

mutual
  pub derives_gives : AreTidy → {w : Scene} {p : Part} {ts rest : List Placed} {v : Value p} → Derives w p ts rest v → Gives p [] ts rest v
  derives_gives all (by rule s) = spells_gives all s (all.produces rule)

  pub spells_gives : AreTidy → {w : Scene} {p : Part} {q : Process (Value p)} {new : List Pos} {ts rest : List Placed} {v : Value p} → Spells w p q ts rest v → Tidy p new q → Gives p new ts rest v
  spells_gives all {p = p} {new = new} ended (tidy_give e) = record { more = []; is = e ∙ ap (λ ps. places_before p ++ ps) (sym (append-nil new)); reads = none }
  spells_gives all (token_then f s) (tidy_token h) = gives_token (spells_gives all s (h _))
  spells_gives all (token_then f s) (tidy_sign h) = gives_skip (spells_gives all s (h _))
  spells_gives all (part_then {a = a} d s) (tidy_part h) =
      let g = derives_gives all d in gives_behind g.reads (spells_gives all s (h a g.more g.is))
  spells_gives all (part_then {a = a} d s) (tidy_quiet h) = gives_quiet (derives_none d) (spells_gives all s (h a))
  spells_gives all (where_so e s) (tidy_only h) = spells_gives all s h

-- a part whose tree has no places of its own
pub all_quiet : {p : Part} → ((v : Value p) → places_in p v ≡ places_before p) → (q : Process (Value p)) → Tidy p [] q
all_quiet {p} h (give v) = tidy_give (h v ∙ sym (append-nil (places_before p)))
all_quiet h (token n c k) = tidy_sign (λ t. all_quiet h (k t))
all_quiet h (part n s i k) = tidy_quiet (λ a. all_quiet h (k a))
all_quiet h (only f q) = tidy_only (all_quiet h q)

-- the part gives what it reads
pub keep : {A : Type 0} {P : A → List Pos} → (a : A) → (v : A) × (give a ≡ give v) × (P v ≡ P a)
keep a = (a, refl, refl)
