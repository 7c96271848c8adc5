-- Where jumps land.
use Rattle.std.proofs.Common.{◌≡◌, ℕ, ℤ, Bool, true, false, List, [], ◌∷◌, length, length-set, drop, refl, sym, ap, ◌∙◌, subst, inl, inr}
use Rattle.std.specs.Prelude.{◌<◌, if◌then◌else◌, All, OnOk, Result, Ok, Err}
use Rattle.c_syntax.specs.TypedStmt.{TStmtTrees}
use Rattle.std.specs.declared.rc.Rc.{Rc}
use Rattle.std.specs.declared.alloc.Global.{Global}
use Rattle.c_machine_trees.specs.declared.statement.SharedStmts.{SharedStmts}
use Rattle.c_machine_work.specs.declared.items.Item as code
use Rattle.c_machine_work.specs.declared.items.Item.TheVariants as items_of
use Rattle.c_machine_work.specs.declared.stack.Held as held
use Rattle.c_machine_work.specs.Views.{item_of, on_top}
use Rattle.c_values.specs.Places.{ObjectMemory}
use Rattle.c_objects.specs.Opening.{shut, shut_all}
use Rattle.c_steps.specs.Work.{Item, Again, SwitchEnd, Reach, Close}
use Rattle.c_steps.specs.States.{Held, Next, goes}
use Rattle.c_steps.specs.Marks.{AtLabel, has, behind, does}
use Rattle.c_steps.specs.Jumps.{broken, continued, jumped, left}
use Rattle.c_steps_laws.specs.Needs.{CanBreak, CanContinue, CanGoTo, CanReturn, EndsThere}
use Rattle.c_machine.specs.declared.jumps.Way.{Way}
use Rattle.c_machine.specs.declared.jumps.Way.TheVariants as ways
use Rattle.c_machine.specs.Landing.{closed, ends_at, memory_at, rest_at}

tails : {A : Type 0} {x y : A} {xs ys : List A} → x ∷ xs ≡ y ∷ ys → xs ≡ ys
tails e = cc

-- ---- objects that end are there

shut_places : (m : ObjectMemory) (xs : List ℕ) → length (shut_all m xs).places ≡ length m.places
shut_places m [] = refl
shut_places m (x ∷ xs) = shut_places (shut m x) xs ∙ length-set _ _ _

pub closed_places : (m : ObjectMemory) (item : Item) → length (closed m item).places ≡ length m.places
closed_places m (Close xs items) = shut_places m xs
closed_places m item = refl

pub still_there : (m n : ObjectMemory) (w : List Item) → length n.places ≡ length m.places → EndsThere m w → EndsThere n w
still_there m n [] e h = tt
still_there m n (Close xs items ∷ w) e h = (subst (λ k. All (λ x. x < k) xs) (sym e) h.0, still_there m n w e h.1)
still_there m n (item ∷ w) e h = still_there m n w e h

pub rest_there : (m : ObjectMemory) (item : Item) (w : List Item) → EndsThere m (item ∷ w) → EndsThere m w
rest_there m (Close xs items) w h = h.1
rest_there m item w h = h

pub first_there : (m : ObjectMemory) (item : Item) (w : List Item) → EndsThere m (item ∷ w) → EndsThere m (item ∷ [])
first_there m (Close xs items) w h = (h.0, tt)
first_there m item w h = tt

-- ---- work that is dropped item by item

pub rest_here : (way : Way) (item : Item) (w : List Item) → ends_at way item ≡ true → rest_at way (item ∷ w) ≡ item ∷ w
rest_here way item w e = ap (λ b. if b then item ∷ w else rest_at way w) e

pub memory_here : (way : Way) (item : Item) (w : List Item) (m : ObjectMemory) → ends_at way item ≡ true → memory_at way (item ∷ w) m ≡ m
memory_here way item w m e = ap (λ b. if b then m else memory_at way w (closed m item)) e

pub rest_on : (way : Way) (item : Item) (w : List Item) → ends_at way item ≡ false → rest_at way (item ∷ w) ≡ rest_at way w
rest_on way item w e = ap (λ b. if b then item ∷ w else rest_at way w) e

pub memory_on : (way : Way) (item : Item) (w : List Item) (m : ObjectMemory) → ends_at way item ≡ false
    → memory_at way (item ∷ w) m ≡ memory_at way w (closed m item)
memory_on way item w m e = ap (λ b. if b then m else memory_at way w (closed m item)) e

-- ---- break

pub break_lands : (w : List Item) → CanBreak w → rest_at ways.Break w ≡ [] → ⊥
break_lands [] h e = h
break_lands (Again k loop ∷ w) h e = absurd (cc)
break_lands (SwitchEnd ∷ w) h e = absurd (cc)
break_lands (Reach at end ∷ w) h e = h
break_lands (item ∷ w) h e = break_lands w h e

pub broken_there : (s : List Held) (i : List ℤ) (w : List Item) (m : ObjectMemory) (item : Item) (rest : List Item) → CanBreak w
    → rest_at ways.Break w ≡ item ∷ rest → broken w s m i ≡ goes rest s (memory_at ways.Break w m) i
broken_there s i [] m item rest h e = absurd h
broken_there s i (Again k loop ∷ w) m item rest h e = ap (λ x. goes x s m i) (tails e)
broken_there s i (SwitchEnd ∷ w) m item rest h e = ap (λ x. goes x s m i) (tails e)
broken_there s i (Reach at end ∷ w) m item rest h e = absurd h
broken_there s i (Close xs items ∷ w) m item rest h e = broken_there s i w (shut_all m xs) item rest h e
broken_there s i (x ∷ w) m item rest h e = broken_there s i w m item rest h e

-- ---- continue

pub continue_lands : (w : List Item) → CanContinue w → rest_at ways.Continue w ≡ [] → ⊥
continue_lands [] h e = h
continue_lands (Again k loop ∷ w) h e = absurd (cc)
continue_lands (Reach at end ∷ w) h e = h
continue_lands (item ∷ w) h e = continue_lands w h e

pub continued_there : (s : List Held) (i : List ℤ) (w : List Item) (m : ObjectMemory) (item : Item) (rest : List Item) → CanContinue w
    → rest_at ways.Continue w ≡ item ∷ rest → continued w s m i ≡ goes (item ∷ rest) s (memory_at ways.Continue w m) i
continued_there s i [] m item rest h e = absurd h
continued_there s i (Again k loop ∷ w) m item rest h e = ap (λ x. goes x s m i) e
continued_there s i (Reach at end ∷ w) m item rest h e = absurd h
continued_there s i (Close xs items ∷ w) m item rest h e = continued_there s i w (shut_all m xs) item rest h e
continued_there s i (x ∷ w) m item rest h e = continued_there s i w m item rest h e

-- ---- return

pub return_lands : (w : List Item) → CanReturn w → rest_at ways.Return w ≡ [] → ⊥
return_lands [] h e = h
return_lands (Reach at end ∷ w) h e = absurd (cc)
return_lands (item ∷ w) h e = return_lands w h e

pub left_there : (v : Held) (s : List Held) (i : List ℤ) (w : List Item) (m : ObjectMemory) (item : Item) (rest : List Item) → CanReturn w
    → rest_at ways.Return w ≡ item ∷ rest → left w v s m i ≡ goes rest (v ∷ s) (memory_at ways.Return w m) i
left_there v s i [] m item rest h e = absurd h
left_there v s i (Reach at end ∷ w) m item rest h e = ap (λ x. goes x (v ∷ s) m i) (tails e)
left_there v s i (Close xs items ∷ w) m item rest h e = left_there v s i w (shut_all m xs) item rest h e
left_there v s i (x ∷ w) m item rest h e = left_there v s i w m item rest h e

-- ---- goto

close_lands : (label : ℕ) (xs : List ℕ) (items : TStmtTrees) (w : List Item) (b : Bool) → has (AtLabel label) items ≡ b
    → CanGoTo label (Close xs items ∷ w) → (CanGoTo label w → rest_at (ways.Goto label) w ≡ [] → ⊥)
    → (if b then Close xs items ∷ w else rest_at (ways.Goto label) w) ≡ [] → ⊥
close_lands label xs items w true is h on e = absurd (cc)
close_lands label xs items w false is (inl this) on e = absurd (cc)
close_lands label xs items w false is (inr h) on e = on h e

pub goto_lands : (label : ℕ) (w : List Item) → CanGoTo label w → rest_at (ways.Goto label) w ≡ [] → ⊥
goto_lands label [] h e = h
goto_lands label (Reach at end ∷ w) h e = h
goto_lands label (Close xs items ∷ w) h e = close_lands label xs items w (has (AtLabel label) items) refl h (goto_lands label w) e
goto_lands label (item ∷ w) h e = goto_lands label w h e

-- the item where a goto lands is the end of a block that has the label
abbrev pub IsBlockOf : ℕ → Item → Type 0
IsBlockOf label (Close xs items) = has (AtLabel label) items ≡ true
IsBlockOf label item = ⊥

heads : {A : Type 0} {x y : A} {xs ys : List A} → x ∷ xs ≡ y ∷ ys → x ≡ y
heads e = cc

close_found : (label : ℕ) (xs : List ℕ) (items : TStmtTrees) (w : List Item) (item : Item) (rest : List Item) (b : Bool) → has (AtLabel label) items ≡ b
    → CanGoTo label (Close xs items ∷ w) → (CanGoTo label w → rest_at (ways.Goto label) w ≡ item ∷ rest → IsBlockOf label item)
    → (if b then Close xs items ∷ w else rest_at (ways.Goto label) w) ≡ item ∷ rest → IsBlockOf label item
close_found label xs items w item rest true is h on e = subst (IsBlockOf label) (heads e) is
close_found label xs items w item rest false is (inl this) on e = absurd (cc)
close_found label xs items w item rest false is (inr h) on e = on h e

pub goto_found : (label : ℕ) (w : List Item) (item : Item) (rest : List Item) → CanGoTo label w → rest_at (ways.Goto label) w ≡ item ∷ rest
    → IsBlockOf label item
goto_found label [] item rest h e = absurd h
goto_found label (Reach at end ∷ w) item rest h e = absurd h
goto_found label (Close xs items ∷ w) item rest h e =
    close_found label xs items w item rest (has (AtLabel label) items) refl h (goto_found label w item rest) e
goto_found label (x ∷ w) item rest h e = goto_found label w item rest h e

module _ (label : ℕ) (s : List Held) (i : List ℤ) (objects : List ℕ) (found : TStmtTrees) (rest : List Item) where
  abbrev arrives : ObjectMemory → Next
  arrives m = goes (does (behind (AtLabel label) found) (Close objects found ∷ rest)) s m i

  here : (xs : List ℕ) (items : TStmtTrees) (w : List Item) (m : ObjectMemory) → Close xs items ∷ w ≡ Close objects found ∷ rest
      → goes (does (behind (AtLabel label) items) (Close xs items ∷ w)) s m i ≡ arrives m
  here xs items w m e =
      let same : items ≡ found = cc in
      ap (λ y. goes (does (behind (AtLabel label) y) (Close xs items ∷ w)) s m i) same
      ∙ ap (λ y. goes (does (behind (AtLabel label) found) y) s m i) e

  close_there : (xs : List ℕ) (items : TStmtTrees) (w : List Item) (m : ObjectMemory) (b : Bool) → has (AtLabel label) items ≡ b
      → CanGoTo label (Close xs items ∷ w)
      → (CanGoTo label w → rest_at (ways.Goto label) w ≡ Close objects found ∷ rest
      → jumped label w s (shut_all m xs) i ≡ arrives (memory_at (ways.Goto label) w (shut_all m xs)))
      → (if b then Close xs items ∷ w else rest_at (ways.Goto label) w) ≡ Close objects found ∷ rest
      → (if b then goes (does (behind (AtLabel label) items) (Close xs items ∷ w)) s m i else jumped label w s (shut_all m xs) i)
      ≡ arrives (if b then m else memory_at (ways.Goto label) w (shut_all m xs))
  close_there xs items w m true is h on e = here xs items w m e
  close_there xs items w m false is (inl this) on e = absurd (cc)
  close_there xs items w m false is (inr h) on e = on h e

  pub jumped_there : (w : List Item) (m : ObjectMemory) → CanGoTo label w → rest_at (ways.Goto label) w ≡ Close objects found ∷ rest
      → jumped label w s m i ≡ arrives (memory_at (ways.Goto label) w m)
  jumped_there [] m h e = absurd h
  jumped_there (Reach at end ∷ w) m h e = absurd h
  jumped_there (Close xs items ∷ w) m h e =
      close_there xs items w m (has (AtLabel label) items) refl h (jumped_there w (shut_all m xs)) e
  jumped_there (x ∷ w) m h e = jumped_there w m h e

-- no other item is one
pub no_block : (label : ℕ) (item : code.Item) → IsBlockOf label (item_of item)
    → ((objects : Rc (List ℕ) Global) (items : Rc SharedStmts Global) → item ≡ items_of.Close objects items → ⊥) → ⊥
no_block label (items_of.Close objects items) h n = n objects items refl
no_block label item h n = h

-- ---- the state there

pub landed_on : (w : List Item) (s t : List Held) (m n : ObjectMemory) (inputs others : List ℤ) (read k : ℕ) → t ≡ s → n ≡ m
    → (others ≡ inputs) × (k ≡ read) → goes w s m (drop read inputs) ≡ goes w t n (drop k others)
landed_on w s t m n inputs others read k stacks memories (lists, places) =
    sym (ap (λ (x : List Held). goes w x n (drop k others)) stacks ∙ ap (λ (x : ObjectMemory). goes w s x (drop k others)) memories
    ∙ ap (λ (x : List ℤ). goes w s m (drop k x)) lists ∙ ap (λ x. goes w s m (drop x inputs)) places)

pub landed : (w : List Item) (s t : List held.Held) (m n : ObjectMemory) (inputs others : List ℤ) (read k : ℕ) → t ≡ s → n ≡ m
    → (others ≡ inputs) × (k ≡ read) → goes w (on_top s []) m (drop read inputs) ≡ goes w (on_top t []) n (drop k others)
landed w s t m n inputs others read k stacks memories same =
    landed_on w (on_top s []) (on_top t []) m n inputs others read k (ap (λ (x : List held.Held). on_top x []) stacks) memories same

pub on_ok : {A B : Type 0} {P Q : Type 0} (r : Result A B) → (P → Q) → OnOk r P → OnOk r Q
on_ok (Ok a) f h = f h
on_ok (Err e) f h = h
