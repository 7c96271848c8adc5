-- Whole initialisers.
use Rattle.std.proofs.Common.{◌≡◌, ℕ, ◌+◌, ◌*◌, ◌≤◌, true, List, [], ◌∷◌, length, refl, subst, arith}
use Rattle.std.specs.Prelude.{Bool, Some}
use Rattle.std.proofs.lemmas.Bool.{false≢true}
use Rattle.std.proofs.lemmas.List.Elements.{All-nil}
use Rattle.c_syntax_written.specs.declared.place.Pos.{Pos}
use Rattle.c_syntax_written.specs.Written as written
use Rattle.c_syntax_written.specs.WrittenParts.{expr_pos}
use Rattle.c_syntax_written.specs.WrittenDecl as inits
use Rattle.c_syntax_written.specs.WrittenDecl.{InitTree, InitTrees}
use Rattle.c_syntax.specs.Types.{CTypeTree, Array}
use Rattle.c_syntax.specs.TypedExpr.{TExprTree}
use Rattle.c_syntax.specs.TypedStmt.{TInitTree}
use Rattle.c_syntax.specs.Program.{StructDefTree}
use Rattle.c_layout.specs.Layout.{size_in}
use Rattle.c_layout.specs.ProperTypes.{whole, IsTold}
use Rattle.c_layout.specs.TypedNodes.{Scope, init_start, init_end, AreApart}
use Rattle.c_typing.specs.World.{World, Typed, Is}
use Rattle.c_typing.specs.Formed.{IsFormed}
use Rattle.c_typing.specs.CurrentObject.{frame_of, open_frame, count_in, own_frame, in_braces, is_text}
use Rattle.c_typing.specs.Inits.{Filled, filled_so, fill, fill_text, array_count, Initialised, ByValue, TypesInit, whole_part}
use Rattle.c_typing.proofs.Changes.{Constants}
use Rattle.c_typing.proofs.Good.{Good}
use Rattle.c_typing.proofs.Adds.{good_after}
use Rattle.c_typing.proofs.Later.{formed_later, later_size}
use Rattle.c_typing.proofs.MadeMembers.{complete_is_size}
use Rattle.c_typing.proofs.SoundTables.{proper}
use Rattle.c_typing.proofs.Reaches as reaches
use Rattle.c_typing.proofs.Reaches.{GoesWith, typed_so, refused_so, AllWith, is_with, then_with, so_with}
use Rattle.c_typing.proofs.TypesGo.{valued, go}
use Rattle.c_typing.proofs.DeclsGo as decls_go
use Rattle.c_typing_laws.specs.ExpressionLaws.{AreUsable, EndsFrom}
use Rattle.c_typing_laws.proofs.WholeExpressions.{At, law, value, expression, ends_before}
use Rattle.c_typing_laws.specs.InitLaws.{AreFilled, InitialisersAreTyped, OpenInitialisersAreTyped}
use Rattle.c_typing_laws.proofs.Frames.{size_of, end_of, IsPart, FrameIn, elements_ordered, element_part, some_size}
use Rattle.c_typing_laws.proofs.Chains.{Below, frames, own_next, own_is}
use Rattle.c_typing_laws.proofs.InitialiserSteady.{frame_same, frame_steady}
use Rattle.c_typing_laws.proofs.Items.{structs_of, IsItem, FillsAny, pairs_nil, text_frame, text_part, Texts}
use Rattle.c_typing_laws.proofs.Lists.{Filling, braces_filling, either, fill_law, items_with}

-- what fills an object
by_part : (scope : Scope) (ty : CTypeTree) (items : List TInitTree) → IsPart (structs_of scope) ty (whole_part ty) → FillsAny scope (whole_part ty) items → AreFilled scope ty items
by_part scope ty items is any = let f = any.fills ty is in record { typed = f.typed; apart = f.apart }

by_filling : (scope : Scope) (top : CTypeTree) (n low high : ℕ) (done : Filled) → Filling scope top n low high done → AreFilled scope top done.items
by_filling scope top n low high done f = record { typed = f.typed; apart = f.apart }

-- ---- of a complete type

whole_is : (w : World) (scope : Scope) (ty : CTypeTree) (s : ℕ) → EndsFrom w scope → IsFormed w.structs ty → size_in w.structs ty ≡ Some s → IsPart (structs_of scope) ty (whole_part ty)
whole_is w scope ty s ends f e = record {
  at = whole ty;
  proper = proper (structs_of scope) ends.table.told ty (formed_later w.structs (structs_of scope) ends.structs ty f);
  size = s;
  sized = later_size w.structs (structs_of scope) ends.structs ty s e;
}

count_text : (structs : List StructDefTree) (ty : CTypeTree) → is_text ty ≡ true → count_in structs ty ≡ array_count ty
count_text structs (Array of c n) is = refl
count_text structs ty is = absurd (false≢true is)

-- what holds of an initialiser
abbrev Is-filled : Scope → CTypeTree → Initialised → World → Type 0
Is-filled scope ty by v = EndsFrom v scope → AreFilled scope ty by.items

by_value_with :
    (scope : Scope) (w : World) (static : Bool) (ty : CTypeTree) (e : written.ExprTree) (s : ℕ) → AreUsable w scope → IsFormed w.structs ty → size_in w.structs ty ≡ Some s → Good w
    → AllWith Constants w (Is-filled scope ty) (ByValue w static ty e)
by_value_with scope w static ty e s u f sized good =
    so_with (value scope (expression scope w e u)) (λ x v r q k.
    so_with (fill_law scope v static (whole_part ty) (expr_pos e) x k.good q) (λ item v2 r2 a k2.
    is_with (λ g. typed_so (reaches.stays v2) (λ ends.
    by_part scope ty (item ∷ []) (whole_is w scope ty s (ends_before w v scope good r (ends_before v v2 scope k.good r2 ends)) f sized) (a ends)))))

pub sized_with :
    (scope : Scope) (w : World) (static : Bool) (ty : CTypeTree) (init : InitTree) (s : ℕ) → AreUsable w scope → IsFormed w.structs ty → size_in w.structs ty ≡ Some s → Good w
    → AllWith Constants w (Is-filled scope ty) (TypesInit w static ty (frame_of w.structs (whole_part ty)) init)
sized_with scope w static ty (inits.Braces at items) s u f sized good =
    so_with (items_with scope w static ty (filled_so [] (in_braces (frame_of w.structs (whole_part ty)))) items u (frame_steady w.structs (whole_part ty) (s, sized), tt) refl) (λ filled v r q k.
    is_with (λ g. typed_so (reaches.stays v) (λ ends.
    let start = ends_before w v scope good r ends in
    let n = own_next filled.aggregates in
    by_filling scope ty n 0 (end_of (structs_of scope) (whole_part ty)) filled
    (q.fills ty n 0 (end_of (structs_of scope) (whole_part ty)) ends (omega arith)
    (braces_filling scope ty n (whole_part ty) (frame_of w.structs (whole_part ty)) start.table (whole_is w scope ty s start f sized) (frame_same w.structs (structs_of scope) start.structs (whole_part ty) (s, sized)))))))
sized_with scope w static ty (inits.Value (written.Strings at text)) s u f sized good =
    either (is_text ty)
    (λ e.
    so_with {P = At scope (FillsAny scope (whole_part ty))} (is_with (λ g. law (fill_text w (whole_part ty) (count_in w.structs ty) at text) (decls_go.fill_text w _ _ at text) (λ items v r q ends.
    text_part scope w v ty 0 at text items e (subst (λ n. fill_text w (whole_part ty) n at text ≡ Typed items v) (count_text w.structs ty e) q)))) (λ items v r a k.
    is_with (λ g. typed_so (reaches.stays v) (λ ends. by_part scope ty items (whole_is w scope ty s (ends_before w v scope good r ends) f sized) (a ends)))))
    (λ e. by_value_with scope w static ty (written.Strings at text) s u f sized good)
sized_with scope w static ty (inits.Value e) s u f sized good = by_value_with scope w static ty e s u f sized good

typed_from : {w v : World} {A : Type 0} {a : A} {P : A → World → Type 0} → GoesWith Constants w P (Typed a v) → P a v
typed_from (typed_so r p) = p

pub initialisers_are_typed : InitialisersAreTyped
initialisers_are_typed around before w v scope static ty size init by t u f e i ends =
    let good = good_after w around before t in typed_from (sized_with scope w static ty init size u f (complete_is_size w.structs ty size e) good good (Typed by v) i) ends

-- ---- of an array without size

open_frame_in : (w : World) (scope : Scope) (of : CTypeTree) (c : Bool) (n s : ℕ) → EndsFrom w scope → IsFormed w.structs of → size_in w.structs of ≡ Some s
    → FrameIn (structs_of scope) (Array of c n) n (open_frame (Array of c 0))
open_frame_in w scope of c n s ends f e =
    let p = proper (structs_of scope) ends.table.told of (formed_later w.structs (structs_of scope) ends.structs of f) in
    let later = later_size w.structs (structs_of scope) ends.structs of s e in record {
      parts = λ k h. element_part k (whole (Array of c n)) p later h;
      ordered = λ j k h l. elements_ordered (structs_of scope) of 0 j k h;
    }

open_filling : (w : World) (scope : Scope) (of : CTypeTree) (c : Bool) (n s : ℕ) → EndsFrom w scope → IsFormed w.structs of → size_in w.structs of ≡ Some s
    → Filling scope (Array of c n) n 0 (n * size_of (structs_of scope) of) (filled_so [] (in_braces (open_frame (Array of c 0))))
open_filling w scope of c n s ends f e = record {
  typed = All-nil (IsItem scope (Array of c n));
  apart = pairs_nil (AreApart (structs_of scope));
  lows = All-nil (λ i. 0 ≤ init_start i);
  highs = All-nil (λ i. init_end (structs_of scope) i ≤ n * size_of (structs_of scope) of);
  going = record {
    chain = open_frame_in w scope of c n s ends f e;
    below = All-nil (λ x. Below (structs_of scope) n x (frames (in_braces (open_frame (Array of c 0)))));
    range = ((λ k h. let o = elements_ordered (structs_of scope) of 0 k n h in (omega arith, omega (arith, o))), tt);
    counts = tt;
  };
}

-- no value is one of an array
fill_refused : (v : World) (static : Bool) (of : CTypeTree) (c : Bool) (at : Pos) (x : TExprTree) {P : TInitTree → World → Type 0} → AllWith Constants v P (Is (fill v static (whole_part (Array of c 0)) at x))
fill_refused v static of c at x = is_with (λ good. refused_so)

no_value : (scope : Scope) (w : World) (static : Bool) (of : CTypeTree) (c : Bool) (e : written.ExprTree) {P : Initialised → World → Type 0} → AllWith Constants w P (ByValue w static (Array of c 0) e)
no_value scope w static of c e {P = P} =
    then_with (valued (go w e)) (λ x v r k.
    so_with (fill_refused v static of c (expr_pos e) x {P = λ item u. ⊥}) (λ item v2 r2 q k2. absurd q))

pub open_with :
    (scope : Scope) (w : World) (static : Bool) (of : CTypeTree) (c : Bool) (init : InitTree) (s : ℕ) → AreUsable w scope → IsFormed w.structs of → size_in w.structs of ≡ Some s → Good w
    → AllWith Constants w (λ by v. EndsFrom v scope → AreFilled scope (Array of c by.count) by.items) (TypesInit w static (Array of c 0) (open_frame (Array of c 0)) init)
open_with scope w static of c (inits.Braces at items) s u f sized good =
    so_with (items_with scope w static (Array of c 0) (filled_so [] (in_braces (open_frame (Array of c 0)))) items u ((s, sized), tt) refl) (λ filled v r q k.
    is_with (λ g. typed_so (reaches.stays v) (λ ends.
    let start = ends_before w v scope good r ends in
    let n = (own_frame filled.aggregates).next in
    let high = n * size_of (structs_of scope) of in
    by_filling scope (Array of c n) n 0 high filled
    (q.fills (Array of c n) n 0 high ends (own_is filled.aggregates) (open_filling w scope of c n s start f sized)))))
open_with scope w static of c (inits.Value (written.Strings at text)) s u f sized good =
    let n = length text + 1 in
    either (is_text (Array of c 0))
    (λ e.
    so_with {P = At scope (Texts scope (Array of c n) 0 0 n)} (is_with (λ g. law (fill_text w (whole_part (Array of c 0)) n at text) (decls_go.fill_text w _ _ at text) (λ items v r q ends.
    text_frame scope (Array of c n) w v (Array of c 0) 0 n at text items e (λ i h. (open_frame_in w scope of c n s (ends_before w v scope good r ends) f sized).parts i h) q))) (λ items v r a k.
    is_with (λ g. typed_so (reaches.stays v) (λ ends. let texts = a ends in record { typed = texts.typed; apart = texts.apart }))))
    (λ e. no_value scope w static of c (written.Strings at text))
open_with scope w static of c (inits.Value e) s u f sized good = no_value scope w static of c e

pub open_initialisers_are_typed : OpenInitialisersAreTyped
open_initialisers_are_typed around before w v scope static of c init by t u f sized i ends =
    let good = good_after w around before t in
    let s = some_size (size_in w.structs of) IsTold sized in
    typed_from (open_with scope w static of c init s.0 u f s.1 good good (Typed by v) i) ends
