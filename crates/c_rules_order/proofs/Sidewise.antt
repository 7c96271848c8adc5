-- What several sides do, and the store that an `=` ends with.
use Rattle.std.proofs.Common.{◌≡◌, ℕ, ◌+◌, ◌-◌, ◌<◌, ◌≤◌, Bool, true, false, List, [], ◌∷◌, ◌++◌, length, get_or, take, refl, sym, subst, ap, ◌∙◌, arith, append_assoc, append-nil, length-append}
use Rattle.std.specs.Prelude.{◌==◌, ◌||◌, not, IfOk, Result}
use Rattle.std.specs.List.{list_any}
use Rattle.std.proofs.lemmas.Bool.Decides.{nat_tests}
use Rattle.std.proofs.lemmas.Option.{unwrap_or-slice_get}
use Rattle.std.proofs.lemmas.List.{get_or_past, take_at, take_more}
use Rattle.std.specs.declared.boxed.Box.{Box}
use Rattle.std.specs.declared.alloc.Global.{Global}
use Rattle.c_syntax_written.specs.declared.place.Pos.{Pos}
use Rattle.c_syntax.specs.declared.operator.Extent.{Extent}
use Rattle.c_syntax.specs.declared.typed.TExpr.{TExpr}
use Rattle.c_syntax.specs.declared.typed.TExpr.TheVariants as codes
use Rattle.c_syntax.specs.declared.typed.TLvalue.{TLvalue}
use Rattle.c_syntax.specs.TypedExpr.{TExprTree, Assign, AssignStruct, texpr_tree}
use Rattle.c_syntax.proofs.TypedExprTrees.{texpr_assign, texpr_assign_struct}
use Rattle.c_layout.specs.Calls.{PlacedCall}
use Rattle.c_rules_effects.specs.declared.touch.Touch.{Touch}
use Rattle.c_rules_effects.specs.declared.effects.Effects.{Effects}
use Rattle.c_rules_effects.specs.Effects.{called, effects_of}
use Rattle.c_rules_effects.specs.Joined.{nothing}
use Rattle.c_rules_effects.proofs.Joins.{joined_nothing, three}
use Rattle.c_rules_effects.specs.Met.{met}
use Rattle.c_rules_order.specs.declared.side.Side.{Side}
use Rattle.c_rules_order.specs.declared.known.Known.{Known}
use Rattle.c_rules_order.specs.Firsts.{all_effects, all_reads, all_writes, effects_write_into, writes_into}
use Rattle.c_rules_order.specs.Made.{all_joined, no_side, sides_joined}
use Rattle.c_rules_order.specs.Sides.{made_beside, side_of, store_of}

made : Effects → List PlacedCall → Side
made own calls = record { own = own; calls = calls }

equal : (a b : Effects) (c d : List PlacedCall) → a ≡ b → c ≡ d → made a c ≡ made b d
equal a b c d e f = ap (λ own. made own c) e ∙ ap (made b) f

joined_none : (a : Side) → sides_joined a no_side ≡ a
unfolding made
joined_none a = equal _ _ _ _ (joined_nothing a.own) (append-nil a.calls)

joined_three : (a b c : Side) → sides_joined (sides_joined a b) c ≡ sides_joined a (sides_joined b c)
unfolding made
joined_three a b c = equal _ _ _ _ (three a.own b.own c.own) (append_assoc a.calls b.calls c.calls)

joined_push : (sides : List Side) (last : Side) → all_joined (sides ++ last ∷ []) ≡ sides_joined (all_joined sides) last
joined_push [] last = joined_none last
joined_push (side ∷ sides) last = ap (sides_joined side) (joined_push sides last) ∙ sym (joined_three side (all_joined sides) last)

pub more_joined : (sides : List Side) (i : ℕ) (side so_far new : Side) → i < length sides → side ≡ get_or sides i side
    → so_far ≡ all_joined (take i sides) → new ≡ sides_joined so_far side → new ≡ all_joined (take (i + 1) sides)
more_joined sides i side so_far new less is before now =
    now ∙ ap (λ front. sides_joined front side) before ∙ sym (joined_push (take i sides) side)
    ∙ ap all_joined (ap (λ x. take i sides ++ x ∷ []) is ∙ sym (take_more sides i side less))

-- ---- the store of an `=`

writes_are : (e : TExprTree) → (effects_of [] e).writes ≡ made_beside e ++ store_of e
unfolding effects_of
writes_are (Assign at place value) = refl
writes_are (AssignStruct at extent place source) = refl
writes_are _ = sym (append-nil _)

side_writes : (e : TExprTree) → (side_of e).own.writes ≡ made_beside e ++ store_of e
unfolding side_of
side_writes e = writes_are e

pub one_store : (value : TExpr) (at : Pos) (place : Box TLvalue Global) (right : Box TExpr Global) → value ≡ codes.Assign at place right
    → 1 ≡ length (store_of (texpr_tree value))
one_store value at place right e = sym (ap (λ v. length (store_of (texpr_tree v))) e ∙ ap (λ tree. length (store_of tree)) (texpr_assign at place right))

pub one_struct_store : (value : TExpr) (at : Pos) (extent : Extent) (place : Box TLvalue Global) (source : Box TExpr Global)
    → value ≡ codes.AssignStruct at extent place source → 1 ≡ length (store_of (texpr_tree value))
one_struct_store value at extent place source e =
    sym (ap (λ v. length (store_of (texpr_tree v))) e ∙ ap (λ tree. length (store_of tree)) (texpr_assign_struct at extent place source))

pub no_store : (value : TExpr) → ((at : Pos) (place : Box TLvalue Global) (right : Box TExpr Global) → value ≡ codes.Assign at place right → ⊥)
    → ((at : Pos) (extent : Extent) (place : Box TLvalue Global) (source : Box TExpr Global) → value ≡ codes.AssignStruct at extent place source → ⊥)
    → 0 ≡ length (store_of (texpr_tree value))
unfolding texpr_tree
no_store (codes.Assign' at place_box place right_box right) n m = absurd (n at _ _ refl)
no_store (codes.AssignStruct' at extent place_box place source_box source) n m = absurd (m at extent _ _ refl)
no_store _ n m = refl

pub store_inside : (side : Side) (e : TExprTree) → side ≡ side_of e → length (store_of e) ≤ length side.own.writes
store_inside side e is =
    let size : length side.own.writes ≡ length (made_beside e) + length (store_of e) =
    ap (λ (s : Side). length s.own.writes) is ∙ ap length (side_writes e) ∙ length-append (made_beside e) (store_of e) in
    omega (arith, size)

-- the writes in front of the store
pub front_is_made : (side : Side) (e : TExprTree) (stores : ℕ) → side ≡ side_of e → stores ≡ length (store_of e)
    → take (length side.own.writes - stores) side.own.writes ≡ made_beside e
front_is_made side e stores is count =
    let writes : side.own.writes ≡ made_beside e ++ store_of e = ap (λ (s : Side). s.own.writes) is ∙ side_writes e in
    let size : length side.own.writes ≡ length (made_beside e) + length (store_of e) = ap length writes ∙ length-append (made_beside e) (store_of e) in
    ap (λ xs. take (length side.own.writes - stores) xs) writes
    ∙ take_at (made_beside e) (store_of e) (length side.own.writes - stores) (omega (arith, size, count))

-- ---- writes and touches by other names

pub told_so : (told : Bool) (taken of_taken : List Bool) (reads of_reads writes of_writes made of_made : List Touch) → taken ≡ of_taken → reads ≡ of_reads
    → writes ≡ of_writes
    → made ≡ of_made → told ≡ list_any (λ s. list_any (met taken s) (reads ++ writes)) made
    → told ≡ list_any (λ s. list_any (met of_taken s) (of_reads ++ of_writes)) of_made
told_so told taken of_taken reads of_reads writes of_writes made of_made e f g h is =
    is ∙ ap (λ t. list_any (λ s. list_any (met t s) (reads ++ writes)) made) e
    ∙ ap (λ xs. list_any (λ s. list_any (met of_taken s) (xs ++ writes)) made) f
    ∙ ap (λ xs. list_any (λ s. list_any (met of_taken s) (of_reads ++ xs)) made) g
    ∙ ap (list_any (λ s. list_any (met of_taken s) (of_reads ++ of_writes))) h

-- ---- what a side does by another name

abbrev effects : List Touch → List Touch → Effects
effects reads writes = record { reads = reads; writes = writes }

pub clash_so : {E : Type 0} (known : Known) (left right : Side) (a : Effects) (r : Result Bool E) → a.reads ≡ all_reads known.functions.items left
    → a.writes ≡ all_writes known.functions.items left
    → IfOk r (λ found. found ≡ effects_write_into known a (all_effects known.functions.items right)
    || effects_write_into known (all_effects known.functions.items right) a)
    → IfOk r (λ found. found ≡ writes_into known left right || writes_into known right left)
clash_so known left right a r e f h =
    let functions = known.functions.items in
    let same : a ≡ all_effects functions left =
    ap (λ xs. effects xs a.writes) e ∙ ap (λ ys. effects (all_reads functions left) ys) f in
    subst (λ (x : Effects). IfOk r (λ found. found ≡ effects_write_into known x (all_effects functions right)
    || effects_write_into known (all_effects functions right) x)) same h

-- ---- what functions write

empty : {A : Type 0} (xs : List A) (b : Bool) → b ≡ (length xs == 0) → not b ≡ false → xs ≡ []
empty [] b e n = refl
empty (x ∷ xs) true e n = absurd (let none : length (x ∷ xs) ≡ 0 = grind (arith, nat_tests, e) in omega (arith, none))
empty (x ∷ xs) false e n = absurd (cc)

pub not_writing : (known : List Effects) (f : ℕ) (found : Effects) (writes : List Touch) (b : Bool) → found ≡ get_or known f nothing → writes ≡ found.writes
    → b ≡ (length writes == 0) → not b ≡ false → (called known f).writes ≡ []
not_writing known f found writes b is same e n =
    ap (λ (x : Effects). x.writes) (unwrap_or-slice_get known f nothing ∙ sym is) ∙ sym same ∙ empty writes b e n

pub none_writing : (known : List Effects) (f : ℕ) → length known ≤ f → (called known f).writes ≡ []
none_writing known f past = ap (λ (x : Effects). x.writes) (unwrap_or-slice_get known f nothing ∙ get_or_past known f nothing past)
