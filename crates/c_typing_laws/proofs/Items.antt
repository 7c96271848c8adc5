-- What fills a part is typed, and fills no byte twice.
use Rattle.std.proofs.Common.{◌≡◌, ℕ, zero, suc, ◌+◌, ◌*◌, ◌<◌, ◌≤◌, pos, true, false, List, [], ◌∷◌, ◌++◌, length, refl, ap, subst, ◌∙◌, inl, ⊎_elim, arith}
use Rattle.std.specs.Prelude.{Bool, not, ◌&&◌, ◌==◌, nat_lt, if◌then◌else◌, Option, None, Some, unwrap_or, All, AllPairs}
use Rattle.std.proofs.lemmas.Bool.{false≢true, ltb-false, eqb-false, cases_order}
use Rattle.std.proofs.lemmas.List.{length_push}
use Rattle.std.proofs.lemmas.List.Elements.{All-nil, All-cons, All-append, All-weaker, All-head, All-tail}
use Rattle.c_syntax_written.specs.declared.place.Pos.{Pos}
use Rattle.c_syntax_written.specs.declared.int_type.IntType.{IntType}
use Rattle.c_syntax_written.specs.declared.int_type.IntType.TheVariants as ints
use Rattle.c_syntax_written.specs.Integer.{wrapped}
use Rattle.c_syntax_written.specs.Integer as sizes
use Rattle.c_syntax.specs.declared.op.Op.TheVariants as ops
use Rattle.c_syntax.specs.Types.{CTypeTree, Int, Array}
use Rattle.c_syntax.specs.TypedExpr.{TExprTree}
use Rattle.c_syntax.specs.TypedParts.{texpr_type}
use Rattle.c_syntax.specs.TypedStmt.{TInitTree, Store, Copy}
use Rattle.c_syntax.specs.Program.{StructDefTree}
use Rattle.c_layout.specs.ProperTypes.{PartAt}
use Rattle.c_layout.specs.TypedNodes.{Scope, IsTypedExpr, IsTypedPlace, AreTyped, IsTypedInit, init_start, init_end, AreApart}
use Rattle.c_values.proofs.Settled.{wrapped_is_of}
use Rattle.c_typing.specs.World.{World, Refusal, NotConstant, Typed, unless, no_rule}
use Rattle.c_typing.specs.Settled.{settled_expr, settled_place, settled_exprs, settled_init}
use Rattle.c_typing.specs.Rows.{Stored, Scalar, Copied, stored_row}
use Rattle.c_typing.specs.CurrentObject.{Part, part_at, is_character, is_text}
use Rattle.c_typing.specs.Inits.{item_of, is_static_item, filled_by, fill, no_init, text_item, text_items, text_for, fill_text, array_count}
use Rattle.c_typing.specs.Later.{IsLater}
use Rattle.c_typing_laws.specs.TypedValues.{IsTypedValue}
use Rattle.c_typing_laws.specs.RowLaws.{IsPut}
use Rattle.c_typing_laws.proofs.Places.{not_typed, typed_is}
use Rattle.c_typing_laws.proofs.Stores.{values_are_put}
use Rattle.c_typing_laws.proofs.Frames.{end_of, IsPart, element_part}

abbrev pub structs_of : Scope → List StructDefTree
structs_of scope = scope.program.structs

-- an item is typed as it is settled
abbrev pub IsItem : Scope → CTypeTree → TInitTree → Type 0
IsItem scope top item = IsTypedInit scope top (settled_init scope.program.objects item)

-- items that fill a part
pub record FillsPart (scope : Scope) (top : CTypeTree) (p : Part) (items : List TInitTree) : Type 0 where
  pub typed : All (IsItem scope top) items
  pub apart : AllPairs (AreApart (structs_of scope)) items
  pub starts : All (λ i. p.offset ≤ init_start i) items
  pub ends : All (λ i. init_end (structs_of scope) i ≤ end_of (structs_of scope) p) items

-- ---- pairs

pub pairs_nil : {A : Type 0} (R : A → A → Type 0) → AllPairs R []
pairs_nil R = λ i j d h l. absurd (omega arith)

pub pairs_cons : {A : Type 0} (R : A → A → Type 0) (x : A) (xs : List A) → All (R x) xs → AllPairs R xs → AllPairs R (x ∷ xs)
pairs_cons R x xs one all zero zero d h l = absurd (omega arith)
pairs_cons R x xs one all zero (suc j) d h l = one j d (omega arith)
pairs_cons R x xs one all (suc i) zero d h l = absurd (omega arith)
pairs_cons R x xs one all (suc i) (suc j) d h l = all i j d (omega arith) (omega arith)

pub pairs_head : {A : Type 0} (R : A → A → Type 0) (x : A) (xs : List A) → AllPairs R (x ∷ xs) → All (R x) xs
pairs_head R x xs all = λ k d h. all 0 (suc k) d (omega arith) (omega arith)

pub pairs_tail : {A : Type 0} (R : A → A → Type 0) (x : A) (xs : List A) → AllPairs R (x ∷ xs) → AllPairs R xs
pairs_tail R x xs all = λ i j d h l. all (suc i) (suc j) d (omega arith) (omega arith)

pub pairs_append : {A : Type 0} (R : A → A → Type 0) (xs ys : List A) → AllPairs R xs → AllPairs R ys → All (λ x. All (R x) ys) xs → AllPairs R (xs ++ ys)
pairs_append R [] ys p q all = q
pairs_append R (x ∷ xs) ys p q all =
    pairs_cons R x (xs ++ ys) (All-append (R x) xs ys (pairs_head R x xs p) (All-head (λ y. All (R y) ys) x xs all))
    (pairs_append R xs ys (pairs_tail R x xs p) q (All-tail (λ y. All (R y) ys) x xs all))

pub pairs_one : {A : Type 0} (R : A → A → Type 0) (x : A) → AllPairs R (x ∷ [])
pairs_one R x = pairs_cons R x [] (All-nil (R x)) (pairs_nil R)

-- ---- one value

one_item : (scope : Scope) (top : CTypeTree) (p : Part) (item : TInitTree) → IsItem scope top item → p.offset ≤ init_start item → init_end (structs_of scope) item ≤ end_of (structs_of scope) p
    → FillsPart scope top p (item ∷ [])
one_item scope top p item t s e = record {
  typed = All-cons (IsItem scope top) item [] t (All-nil (IsItem scope top));
  apart = pairs_one (AreApart (structs_of scope)) item;
  starts = All-cons (λ i. p.offset ≤ init_start i) item [] s (All-nil (λ i. p.offset ≤ init_start i));
  ends = All-cons (λ i. init_end (structs_of scope) i ≤ end_of (structs_of scope) p) item [] e (All-nil (λ i. init_end (structs_of scope) i ≤ end_of (structs_of scope) p));
}

put_item : (scope : Scope) (top : CTypeTree) (p : Part) (stored : Stored) → IsPart (structs_of scope) top p → IsPut scope p.ty stored → FillsPart scope top p (item_of p.offset p.ty stored ∷ [])
put_item scope top p (Scalar value) is put = one_item scope top p (Store p.offset p.ty value) (put.typed.typed, is.at, put.row) (omega arith) (omega arith)
put_item scope top p (Copied extent source) is put =
    let size = ap (λ o. unwrap_or o 0) put.1.size in
    one_item scope top p (Copy p.offset extent source) (put.0.typed, p.ty, is.at, put.1) (omega arith) (omega (arith, size))

fill_by :
    (scope : Scope) (top : CTypeTree) (w v : World) (static : Bool) (p : Part) (at : Pos) (r : Refusal) (o : Option Stored) (item : TInitTree) → IsPart (structs_of scope) top p
    → ((stored : Stored) → o ≡ Some stored → IsPut scope p.ty stored) → filled_by w static p at r o ≡ Typed item v → FillsPart scope top p (item ∷ [])
fill_by scope top w v static p at r None item is f e = not_typed r item v e
fill_by scope top w v static p at r (Some stored) item is f e = by (static && not (is_static_item w.objects stored)) e
  where
    by : (b : Bool) → unless b (NotConstant at) (Typed (item_of p.offset p.ty stored) w) ≡ Typed item v → FillsPart scope top p (item ∷ [])
    by true q = not_typed (NotConstant at) item v q
    by false q = subst (λ i. FillsPart scope top p (i ∷ [])) (typed_is (item_of p.offset p.ty stored) item w v q) (put_item scope top p stored is (f stored refl))

pub fill_typed :
    (scope : Scope) (top : CTypeTree) (w v : World) (static : Bool) (p : Part) (at : Pos) (e : TExprTree) (item : TInitTree) → IsLater w.structs (structs_of scope)
    → IsPart (structs_of scope) top p → IsTypedValue scope e → fill w static p at e ≡ Typed item v → FillsPart scope top p (item ∷ [])
fill_typed scope top w v static p at e item later is x q =
    fill_by scope top w v static p at (no_init w at p.ty e) (stored_row w.structs p.ty (texpr_type e) e) item is (λ stored r. values_are_put w.structs scope p.ty e stored later x is.proper r) q

-- ---- text

pub byte_one : (t : IntType) → is_character t ≡ true → sizes.bytes t ≡ 1
byte_one ints.Char e = refl
byte_one ints.SChar e = refl
byte_one ints.UChar e = refl
byte_one t e = absurd (false≢true e)

text_init : (scope : Scope) (top : CTypeTree) (at : Pos) (t : IntType) (off byte : ℕ) → PartAt (structs_of scope) top off (Int t) → IsItem scope top (text_item at t off byte)
unfolding IsTypedExpr IsTypedPlace AreTyped settled_expr settled_place settled_exprs
text_init scope top at t off byte p = (wrapped_is_of t (pos byte), p, record { scalar = tt; same = refl; keeps = λ h. h })

-- a character of an array, which is so far behind its first
pub record IsCharacter (structs : List StructDefTree) (off k n : ℕ) (item : TInitTree) : Type 0 where
  pub place : ℕ
  pub from : k ≤ place
  pub below : place < n
  pub start : init_start item ≡ off + place
  pub end : init_end structs item ≡ off + place + 1

-- characters from a place on
pub record Texts (scope : Scope) (top : CTypeTree) (off k n : ℕ) (items : List TInitTree) : Type 0 where
  pub typed : All (IsItem scope top) items
  pub apart : AllPairs (AreApart (structs_of scope)) items
  pub places : All (IsCharacter (structs_of scope) off k n) items

character_apart : (structs : List StructDefTree) (off k n : ℕ) (first item : TInitTree) → init_end structs first ≤ off + k → IsCharacter structs off k n item → AreApart structs first item
character_apart structs off k n first item e c = let f = c.from in let s = c.start in inl (omega (arith, s, f, e))

character_later : (structs : List StructDefTree) (off k n : ℕ) (item : TInitTree) → IsCharacter structs off (k + 1) n item → IsCharacter structs off k n item
character_later structs off k n item c = record { place = c.place; from = (let f = c.from in omega (arith, f)); below = c.below; start = c.start; end = c.end }

text_from :
    (scope : Scope) (top : CTypeTree) (at : Pos) (t : IntType) (off n k : ℕ) (bytes : List ℕ) → sizes.bytes t ≡ 1 → ((i : ℕ) → i < n → PartAt (structs_of scope) top (off + i) (Int t)) → k + length bytes ≤ n
    → Texts scope top off k n (text_items at t (off + k) bytes)
unfolding text_items
text_from scope top at t off n k [] one parts h = record {
  typed = All-nil (IsItem scope top);
  apart = pairs_nil (AreApart (structs_of scope));
  places = All-nil (IsCharacter (structs_of scope) off k n);
}
text_from scope top at t off n k (byte ∷ rest) one parts h =
    let first = text_item at t (off + k) byte in
    let place : off + (k + 1) ≡ (off + k) + 1 = omega arith in
    let more = subst (λ x. Texts scope top off (k + 1) n (text_items at t x rest)) place (text_from scope top at t off n (k + 1) rest one parts (omega arith)) in
    let items = text_items at t ((off + k) + 1) rest in
    let end : init_end (structs_of scope) first ≡ off + k + 1 = omega (arith, one) in record {
      typed = All-cons (IsItem scope top) first items (text_init scope top at t (off + k) byte (parts k (omega arith))) more.typed;
      apart = pairs_cons (AreApart (structs_of scope)) first items
          (All-weaker (IsCharacter (structs_of scope) off (k + 1) n) (AreApart (structs_of scope) first) (λ i c. character_apart (structs_of scope) off (k + 1) n first i (omega (arith, end)) c) items more.places) more.apart;
      places = All-cons (IsCharacter (structs_of scope) off k n) first items (record { place = k; from = omega arith; below = omega arith; start = refl; end = end })
          (All-weaker (IsCharacter (structs_of scope) off (k + 1) n) (IsCharacter (structs_of scope) off k n) (λ i c. character_later (structs_of scope) off k n i c) items more.places);
    }

less_of : (a b : ℕ) → a ≤ b → (a ≡ b → ⊥) → a < b
less_of a b h ne = ⊎_elim (λ e. absurd (ne e)) (λ o. ⊎_elim (λ l. l) (λ g. absurd (omega arith)) o) (cases_order a b)

for_length : (n : ℕ) (text : List ℕ) → length text ≤ n → length (text_for n text) ≤ n
for_length n text h = by (length text == n) refl
  where
    by : (b : Bool) → (length text == n) ≡ b → length (if b then text else text ++ 0 ∷ []) ≤ n
    by true e = h
    by false e = let l = length_push text 0 in let m = less_of (length text) n h (eqb-false (length text) n e) in omega (arith, l, m)

-- a literal fills the array whose parts these are
pub text_frame :
    (scope : Scope) (top : CTypeTree) (w v : World) (ty : CTypeTree) (off n : ℕ) (at : Pos) (text : List ℕ) (items : List TInitTree) → is_text ty ≡ true
    → ((i : ℕ) → i < n → IsPart (structs_of scope) top (part_at (structs_of scope) ty off i)) → fill_text w (record { ty = ty; offset = off }) n at text ≡ Typed items v → Texts scope top off 0 n items
text_frame scope top w v (Array (Int t) c m) off n at text items is parts e = by (nat_lt n (length text)) refl e
  where
    by : (b : Bool) → nat_lt n (length text) ≡ b → unless b (no_rule w at ops.Init (Array (Int t) c m) None) (Typed (text_items at t off (text_for n text)) w) ≡ Typed items v → Texts scope top off 0 n items
    by true q r = not_typed _ items v r
    by false q r =
        let z : off + 0 ≡ off = omega arith in
        subst (Texts scope top off 0 n) (ap (λ x. text_items at t x (text_for n text)) z ∙ typed_is (text_items at t off (text_for n text)) items w v r)
        (text_from scope top at t off n 0 (text_for n text) (byte_one t is)
        (λ i h.
        let m : i * sizes.bytes t ≡ i * 1 = ap (λ b. i * b) (byte_one t is) in
        let o : off + i * sizes.bytes t ≡ off + i = omega (arith, m) in subst (λ x. PartAt (structs_of scope) top x (Int t)) o (parts i h).at)
        (let l = for_length n text (ltb-false n (length text) q) in omega (arith, l)))
text_frame scope top w v ty off n at text items is parts e = absurd (false≢true is)

-- items that fill a part, whatever it is a part of
pub record FillsAny (scope : Scope) (p : Part) (items : List TInitTree) : Type 0 where
  pub fills : (top : CTypeTree) → IsPart (structs_of scope) top p → FillsPart scope top p items

text_fills : (scope : Scope) (top : CTypeTree) (t : IntType) (c : Bool) (n off : ℕ) (items : List TInitTree) → sizes.bytes t ≡ 1 → Texts scope top off 0 n items
    → FillsPart scope top (record { ty = Array (Int t) c n; offset = off }) items
text_fills scope top t c n off items one texts =
    let m : n * sizes.bytes t ≡ n * 1 = ap (λ b. n * b) one in record {
      typed = texts.typed;
      apart = texts.apart;
      starts = All-weaker (IsCharacter (structs_of scope) off 0 n) (λ i. off ≤ init_start i) (λ i c. let s = c.start in omega (arith, s)) items texts.places;
      ends = All-weaker (IsCharacter (structs_of scope) off 0 n) (λ i. init_end (structs_of scope) i ≤ off + n * sizes.bytes t) (λ i c. let e = c.end in let b = c.below in omega (arith, e, b, m)) items texts.places;
    }

-- a literal fills a part that is an array of characters
pub text_part :
    (scope : Scope) (w v : World) (ty : CTypeTree) (off : ℕ) (at : Pos) (text : List ℕ) (items : List TInitTree) → is_text ty ≡ true
    → fill_text w (record { ty = ty; offset = off }) (array_count ty) at text ≡ Typed items v → FillsAny scope (record { ty = ty; offset = off }) items
text_part scope w v (Array (Int t) c n) off at text items is e = record {
  fills = λ top p.
      text_fills scope top t c n off items (byte_one t is)
      (text_frame scope top w v (Array (Int t) c n) off n at text items is (λ i h. element_part i p.at p.proper.0 refl h) e);
}
text_part scope w v ty off at text items is e = absurd (false≢true is)
