-- Lists of initialisers fill parts one behind the other.
use Rattle.std.proofs.Common.{◌≡◌, ℕ, ◌+◌, ◌*◌, ◌≤◌, true, false, List, [], ◌∷◌, ◌++◌, length, refl, ap, sym, subst, ◌∙◌, inl, arith}
use Rattle.std.specs.Prelude.{Bool, not, ◌&&◌, ◌||◌, ◌==◌, if◌then◌else◌, IsFalse, Option, None, Some, unwrap_or, All, AllPairs, map}
use Rattle.std.proofs.lemmas.Bool.{false≢true, and_parts, eqb-true}
use Rattle.std.proofs.lemmas.List.Elements.{All-nil, All-cons, All-append, All-weaker, All-head, All-tail}
use Rattle.std.proofs.lemmas.Option.{same_Some, none-some}
use Rattle.c_syntax_written.specs.declared.place.Pos.{Pos}
use Rattle.c_syntax_written.specs.Integer as sizes
use Rattle.c_syntax_written.specs.Written as written
use Rattle.c_syntax_written.specs.WrittenParts.{expr_pos}
use Rattle.c_syntax_written.specs.WrittenDecl as inits
use Rattle.c_syntax_written.specs.WrittenDecl.{InitTree, InitTrees}
use Rattle.c_syntax.specs.Types.{CTypeTree, Void, Int, Pointer, Array, Struct, Function}
use Rattle.c_syntax.specs.TypedExpr.{TExprTree}
use Rattle.c_syntax.specs.TypedParts.{texpr_type}
use Rattle.c_syntax.specs.TypedStmt.{TInitTree}
use Rattle.c_syntax.specs.Program.{StructDefTree}
use Rattle.c_layout.specs.Tables.{IsTypedTable}
use Rattle.c_layout.specs.TypedNodes.{Scope, init_start, init_end, AreApart}
use Rattle.c_typing.specs.World.{World, Refusal, Outcome, Typed, Is}
use Rattle.c_typing.specs.SameTypes.{is_same}
use Rattle.c_typing.specs.CurrentObject.{Part, Frame, Aggregates, in_braces, frame_of, is_full, part_of, part_at, filled, current, next_part, after_part, outermost, own_frame, Fills, takes_value, takes_text, is_text, is_text_in_braces, is_scalar_in_braces, is_aggregate}
use Rattle.c_typing.specs.Inits as lists
use Rattle.c_typing.specs.Inits.{AtPart, Either, Into, TypedAndRefused, WithText, TypesItems, TypesInBraces, Filled, filled_so, full_of, fill, fill_text, array_count}
use Rattle.c_typing.proofs.Changes.{Constants}
use Rattle.c_typing.proofs.Good.{Good, is_later}
use Rattle.c_typing.proofs.SoundTables.{typed_table}
use Rattle.c_typing.proofs.Reaches as reaches
use Rattle.c_typing.proofs.Reaches.{Reaches, Kept, kept, GoesWith, typed_so, refused_so, AllWith, is_with, then_with, so_with}
use Rattle.c_typing.proofs.TypesGo.{valued, go}
use Rattle.c_typing.proofs.DeclsGo as decls_go
use Rattle.c_typing_laws.specs.ExpressionLaws.{AreUsable, EndsFrom}
use Rattle.c_typing_laws.specs.TypedValues.{IsTypedValue}
use Rattle.c_typing_laws.proofs.WholeExpressions.{At, law, value, expression, ends_before, usable_after}
use Rattle.c_typing_laws.proofs.Frames.{room, end_of, IsPart, frame_in, inside_part}
use Rattle.c_typing_laws.proofs.Chains.{Below, InRange, frames, own_current, own_next, same_next, braces_next, after_next, Ready, Going, next_ready, filled_going}
use Rattle.c_typing_laws.proofs.InitialiserSteady.{Sized, IsSteady, AreSteady, sized_later, all_later, frame_same, frame_steady, next_is, next_sized, fills_reached, fills_ready}
use Rattle.c_typing_laws.proofs.Items.{structs_of, IsItem, byte_one, FillsPart, FillsAny, pairs_nil, pairs_append, fill_typed, text_frame, text_part, IsCharacter}

-- ---- lists of ends

all_mapped : {A B : Type 0} (f : A → B) (P : B → Type 0) (xs : List A) → All (λ x. P (f x)) xs → All P (map f xs)
all_mapped f P [] h = All-nil P
all_mapped f P (x ∷ xs) h = All-cons P (f x) (map f xs) (All-head (λ y. P (f y)) x xs h) (all_mapped f P xs (All-tail (λ y. P (f y)) x xs h))

all_unmapped : {A B : Type 0} (f : A → B) (P : B → Type 0) (xs : List A) → All P (map f xs) → All (λ x. P (f x)) xs
all_unmapped f P [] h = All-nil (λ x. P (f x))
all_unmapped f P (x ∷ xs) h = All-cons (λ y. P (f y)) x xs (All-head P (f x) (map f xs) h) (all_unmapped f P xs (All-tail P (f x) (map f xs) h))

mapped_append : {A B : Type 0} (f : A → B) (xs ys : List A) → map f (xs ++ ys) ≡ map f xs ++ map f ys
mapped_append f [] ys = refl
mapped_append f (x ∷ xs) ys = ap (λ l. f x ∷ l) (mapped_append f xs ys)

abbrev pub ends_of : Scope → List TInitTree → List ℕ
ends_of scope items = map (init_end (structs_of scope)) items

-- ---- what is filled

pub record Filling (scope : Scope) (top : CTypeTree) (n low high : ℕ) (done : Filled) : Type 0 where
  pub typed : All (IsItem scope top) done.items
  pub apart : AllPairs (AreApart (structs_of scope)) done.items
  pub lows : All (λ i. low ≤ init_start i) done.items
  pub highs : All (λ i. init_end (structs_of scope) i ≤ high) done.items
  pub going : Going (structs_of scope) top n low high (ends_of scope done.items) done.aggregates

-- what a list fills behind what is filled already
pub record Result (scope : Scope) (done filled : Filled) (v : World) : Type 0 where
  pub grows : own_next done.aggregates ≤ own_next filled.aggregates
  pub fills : (top : CTypeTree) (n low high : ℕ) → EndsFrom v scope → own_next filled.aggregates ≤ n → Filling scope top n low high done → Filling scope top n low high filled

behind_done :
    (scope : Scope) (items : List TInitTree) (p : Part) (x : TInitTree) → All (λ i. p.offset ≤ init_start i) items → init_end (structs_of scope) x ≤ p.offset → All (AreApart (structs_of scope) x) items
behind_done scope items p x starts l = All-weaker (λ i. p.offset ≤ init_start i) (AreApart (structs_of scope) x) (λ i s. inl (omega (arith, l, s))) items starts

-- with one more part filled
part_filled :
    {scope : Scope} {top : CTypeTree} {n low high : ℕ} (done : Filled) (p : Part) (a : Aggregates) (items : List TInitTree) → Filling scope top n low high done
    → Ready (structs_of scope) top n low high (ends_of scope done.items) p a → FillsPart scope top p items → Filling scope top n low high (filled_so (done.items ++ items) a)
part_filled {scope} {top} {n} {low} {high} done p a items f r q =
    let l = r.lows in
    let h = r.highs in record {
      typed = All-append (IsItem scope top) done.items items f.typed q.typed;
      apart = pairs_append (AreApart (structs_of scope)) done.items items f.apart q.apart
          (All-weaker (λ i. init_end (structs_of scope) i ≤ p.offset) (λ x. All (AreApart (structs_of scope) x) items) (λ x e. behind_done scope items p x q.starts e) done.items
          (all_unmapped (init_end (structs_of scope)) (λ y. y ≤ p.offset) done.items r.before));
      lows = All-append (λ i. low ≤ init_start i) done.items items f.lows (All-weaker (λ i. p.offset ≤ init_start i) (λ i. low ≤ init_start i) (λ i s. omega (arith, l, s)) items q.starts);
      highs = All-append (λ i. init_end (structs_of scope) i ≤ high) done.items items f.highs
          (All-weaker (λ i. init_end (structs_of scope) i ≤ end_of (structs_of scope) p) (λ i. init_end (structs_of scope) i ≤ high) (λ i s. omega (arith, h, s)) items q.ends);
      going = subst (λ xs. Going (structs_of scope) top n low high xs a) (sym (mapped_append (init_end (structs_of scope)) done.items items))
          (filled_going (ends_of scope items) p a r (all_mapped (init_end (structs_of scope)) (λ y. y ≤ end_of (structs_of scope) p) items q.ends));
    }

-- ---- nothing filled yet, in the braces of a part

pub braces_filling : (scope : Scope) (top : CTypeTree) (n : ℕ) (p : Part) (f : Frame) → IsTypedTable (structs_of scope) → IsPart (structs_of scope) top p → frame_of (structs_of scope) p ≡ f
    → Filling scope top n p.offset (end_of (structs_of scope) p) (filled_so [] (in_braces f))
braces_filling scope top n p f table is e =
    let size = ap (λ o. unwrap_or o 0) is.sized in
    subst (λ g. Filling scope top n p.offset (end_of (structs_of scope) p) (filled_so [] (in_braces g))) e (record {
      typed = All-nil (IsItem scope top);
      apart = pairs_nil (AreApart (structs_of scope));
      lows = All-nil (λ i. p.offset ≤ init_start i);
      highs = All-nil (λ i. init_end (structs_of scope) i ≤ end_of (structs_of scope) p);
      going = record {
        chain = frame_in (structs_of scope) top n p table is;
        below = All-nil (λ x. Below (structs_of scope) n x (frames (in_braces (frame_of (structs_of scope) p))));
        range = ((λ k h. let i = inside_part (structs_of scope) n p.ty p.offset is.size table is.proper is.sized k h in let b = i.1 in (i.0, omega (arith, size, b))), tt);
        counts = tt;
      };
    })

filled_part : (scope : Scope) (top : CTypeTree) (n : ℕ) (p : Part) (done : Filled) → Filling scope top n p.offset (end_of (structs_of scope) p) done → FillsPart scope top p done.items
filled_part scope top n p done f = record { typed = f.typed; apart = f.apart; starts = f.lows; ends = f.highs }

-- ---- outcomes

with_so : {A : Type 0} {w : World} {P Q : A → World → Type 0} {kind : Outcome A → Type 0} → ((a : A) (v : World) → Reaches Constants w v → P a v → Q a v) → AllWith Constants w P kind → AllWith Constants w Q kind
with_so {A} {w} {P} {Q} {kind} f g good o k = by o (g good o k)
  where
    by : (x : Outcome A) → GoesWith Constants w P x → GoesWith Constants w Q x
    by x (typed_so {a = a} {v = v} r p) = typed_so r (f a v r p)
    by x refused_so = refused_so

at_part :
    {A : Type 0} {w : World} {Q : A → World → Type 0} (o : Option Part) {full : Outcome A → Type 0} {next : Part → Outcome A → Type 0} → AllWith Constants w Q full
    → ((p : Part) → o ≡ Some p → AllWith Constants w Q (next p)) → AllWith Constants w Q (AtPart o full next)
unfolding AtPart
at_part None f g = f
at_part (Some p) f g = g p refl

pub either :
    {A : Type 0} {w : World} {Q : A → World → Type 0} (b : Bool) {x y : Outcome A → Type 0} → (b ≡ true → AllWith Constants w Q x) → (b ≡ false → AllWith Constants w Q y)
    → AllWith Constants w Q (Either b x y)
unfolding Either
either true f g = f refl
either false f g = g refl

into :
    {A : Type 0} {w : World} {Q : A → World → Type 0} {structs : List StructDefTree} {takes : CTypeTree → Bool} {p : Part} {a : Aggregates} {next : Part → Aggregates → Outcome A → Type 0}
    → ((q : Part) (b : Aggregates) → Fills structs takes p a q b → AllWith Constants w Q (next q b)) → AllWith Constants w Q (Into structs takes p a next)
into f good o s = f s.part2 s.after s.fills good o s.goes

refused : {A : Type 0} {Q : A → World → Type 0} (w : World) (e : written.ExprTree) (refusal : World → Refusal) → AllWith Constants w Q (TypedAndRefused {A = A} w e refusal)
refused w e refusal = then_with (valued (go w e)) (λ x v r k. is_with (λ good. refused_so))

in_braces_refused : {Q : Filled → World → Type 0} (w : World) (refusal : World → written.ExprTree → Refusal) (at : Pos) (items : InitTrees) → AllWith Constants w Q (TypesInBraces w refusal at items)
unfolding TypesInBraces
in_braces_refused w refusal at inits.no_inits = is_with (λ good. refused_so)
in_braces_refused w refusal at (inits.more_inits (inits.Braces inner_at inner) rest) = in_braces_refused w refusal inner_at inner
in_braces_refused w refusal at (inits.more_inits (inits.Value e) rest) = refused w e _

-- ---- the next part

next_some : (structs : List StructDefTree) (a : Aggregates) (p : Part) → next_part structs a ≡ Some p → (is_full (current a).inner ≡ false) × (part_of structs (current a).inner ≡ p)
next_some structs a p e = by (is_full (current a).inner) refl e
  where
    by : (b : Bool) → is_full (current a).inner ≡ b → (if b then None else Some (part_of structs (current a).inner)) ≡ Some p → (is_full (current a).inner ≡ false) × (part_of structs (current a).inner ≡ p)
    by true q r = absurd (none-some p r)
    by false q r = (q, same_Some (part_of structs (current a).inner) p r)

outer_type : (f : Frame) (rest : List Frame) → (outermost (filled f) rest).ty ≡ (outermost f rest).ty
outer_type f [] = refl
outer_type f (g ∷ rest) = refl

own_type : (a : Aggregates) → (own_frame (after_part a)).ty ≡ (own_frame a).ty
own_type a = outer_type (current a).inner (current a).outer ∙ ap (λ f. f.ty) (own_current a)

-- the next part of what is under way in a world
pub record Taken (w : World) (done : Filled) (p : Part) : Type 0 where
  pub table : IsTypedTable w.structs
  pub steady : AreSteady w.structs (frames done.aggregates)
  pub not_full : is_full (current done.aggregates).inner ≡ false
  pub is : part_of w.structs (current done.aggregates).inner ≡ p
  pub sized : Sized w.structs p.ty
  pub after : AreSteady w.structs (frames (after_part done.aggregates))

taken : (w : World) (done : Filled) (p : Part) → Good w → AreSteady w.structs (frames done.aggregates) → next_part w.structs done.aggregates ≡ Some p → Taken w done p
taken w done p good steady e =
    let table = typed_table w.structs good.made good.sound in
    let next = next_some w.structs done.aggregates p e in
    let both = next_sized w.structs table done.aggregates steady next.0 in record {
      table = table;
      steady = steady;
      not_full = next.0;
      is = next.1;
      sized = subst (λ q. Sized w.structs q.ty) next.1 both.0;
      after = both.1;
    }

part_ready :
    {scope : Scope} {w : World} {top : CTypeTree} {n low high : ℕ} (done : Filled) (p : Part) → Taken w done p → EndsFrom w scope → own_next (after_part done.aggregates) ≤ n → Filling scope top n low high done
    → Ready (structs_of scope) top n low high (ends_of scope done.items) p (after_part done.aggregates)
part_ready {scope} {w} {top} {n} {low} {high} done p t ends l f =
    let next = next_is w.structs (structs_of scope) t.table ends.structs done.aggregates t.steady t.not_full in
    subst (λ q. Ready (structs_of scope) top n low high (ends_of scope done.items) q (after_part done.aggregates)) (next.same ∙ t.is) (next_ready done.aggregates f.going t.not_full l)

-- a part in braces, and what is behind it
braces_result :
    {scope : Scope} {w v u : World} (done inner final : Filled) (p : Part) → Taken w done p → (EndsFrom u scope → EndsFrom w scope) → (EndsFrom u scope → EndsFrom v scope)
    → Result scope (filled_so [] (in_braces (frame_of w.structs p))) inner v → Result scope (filled_so (done.items ++ inner.items) (after_part done.aggregates)) final u → Result scope done final u
braces_result {scope} {w} {v} {u} done inner final p t first second q r = record {
  grows = (let a = after_next done.aggregates in let b = r.grows in omega (arith, a, b));
  fills = λ top n low high ends le f.
      let g = r.grows in
      let ready = part_ready done p t (first ends) (omega (arith, g, le)) f in
      let m = own_next inner.aggregates in
      let braces = braces_filling scope top m p (frame_of w.structs p) ends.table ready.is (frame_same w.structs (structs_of scope) (first ends).structs p t.sized) in
      let inside = q.fills top m p.offset (end_of (structs_of scope) p) (second ends) (omega arith) braces in
      r.fills top n low high ends le (part_filled done p (after_part done.aggregates) inner.items f ready (filled_part scope top m p inner inside));
}

-- a part without braces, and what is behind it
taken_result :
    {scope : Scope} {w v u : World} {takes : CTypeTree → Bool} (done final : Filled) (p q : Part) (a : Aggregates) (items : List TInitTree) → Taken w done p → IsTypedTable v.structs
    → (EndsFrom u scope → EndsFrom w scope) → (EndsFrom u scope → EndsFrom v scope) → ((ty : CTypeTree) → IsFalse (takes ty) → is_aggregate ty ≡ true) → Sized v.structs p.ty → AreSteady v.structs (frames (after_part done.aggregates))
    → Fills v.structs takes p (after_part done.aggregates) q a → (EndsFrom u scope → FillsAny scope q items) → Result scope (filled_so (done.items ++ items) a) final u → Result scope done final u
taken_result {scope} {w} {v} {u} {takes} done final p q a items t table first second agg sized steady fl any r =
    let reached = fills_reached table agg fl sized steady in
    let same : own_next a ≡ own_next (after_part done.aggregates) = same_next a (after_part done.aggregates) reached.same in
    let g : own_next a ≤ own_next final.aggregates = r.grows in record {
      grows = (let b = after_next done.aggregates in omega (arith, b, g, same));
      fills = λ top n low high ends le f.
          let ready = part_ready done p t (first ends) (omega (arith, g, le, same)) f in
          let inner = fills_ready table ends.table (second ends).structs agg fl sized ready in
          r.fills top n low high ends le (part_filled done q a items f inner ((any ends).fills top inner.is));
    }

-- ---- a literal in the braces of an array of characters

text_place : (structs : List StructDefTree) (ty : CTypeTree) (off k : ℕ) → is_text ty ≡ true → ((part_at structs ty off k).offset ≡ off + k) × (end_of structs (part_at structs ty off k) ≡ off + k + 1)
text_place structs (Array (Int t) c n) off k is =
    let one = byte_one t is in
    let m : k * sizes.bytes t ≡ k * 1 = ap (λ b. k * b) one in (omega (arith, m), omega (arith, m, one))
text_place structs ty off k is = absurd (false≢true is)

text_steady : (structs : List StructDefTree) (ty : CTypeTree) (c d : Option ℕ) → is_text ty ≡ true → IsSteady structs ty c → IsSteady structs ty d
text_steady structs (Array (Int t) k n) c d is s = s
text_steady structs ty c d is s = absurd (false≢true is)

count_room : (count : Option ℕ) (text : List ℕ) (n : ℕ) → lists.room count text ≤ n → lists.room count text ≤ unwrap_or count n
count_room None text n h = h
count_room (Some c) text n h = omega arith

any_of : {A : Type 0} (P : A → Type 0) (xs : List A) → ((x : A) → P x) → All P xs
any_of P xs f = λ k d h. f _

text_low : (scope : Scope) (n low high c : ℕ) (f : Frame) (i : TInitTree) → is_text f.ty ≡ true → InRange (structs_of scope) n low high (f ∷ []) → c ≤ room n f → IsCharacter (structs_of scope) f.offset 0 c i
    → (low ≤ init_start i) × (init_end (structs_of scope) i ≤ high)
text_low scope n low high c f i is range le ch =
    let b = ch.below in
    let at = text_place (structs_of scope) f.ty f.offset ch.place is in
    let r = range.0 ch.place (omega (arith, b, le)) in
    let s = ch.start in
    let e = ch.end in
    let x = at.0 in
    let y = at.1 in
    let l = r.0 in
    let h = r.1 in (omega (arith, s, x, l), omega (arith, e, y, h))

text_in_braces :
    (scope : Scope) (w v : World) (f : Frame) (old : List TInitTree) (at : Pos) (text : List ℕ) (items : List TInitTree) → f.next ≡ 0 → is_text f.ty ≡ true
    → fill_text w (record { ty = f.ty; offset = f.offset }) (lists.room f.count text) at text ≡ Typed items v → Result scope (filled_so old (in_braces f)) (filled_so items (full_of (in_braces f) text)) v
text_in_braces scope w v f old at text items z is e =
    let c = lists.room f.count text in
    let before = braces_next f in
    let behind = braces_next (full_of (in_braces f) text).inner in record {
      grows = omega (arith, before, z);
      fills = λ top n low high ends le g.
          let within = count_room f.count text n (omega (arith, behind, le)) in
          let parts = g.going.chain in
          let texts = text_frame scope top w v f.ty f.offset c at text items is (λ i h. parts.parts i (omega (arith, h, within))) e in record {
            typed = texts.typed;
            apart = texts.apart;
            lows = All-weaker (IsCharacter (structs_of scope) f.offset 0 c) (λ i. low ≤ init_start i) (λ i ch. (text_low scope n low high c f i is g.going.range within ch).0) items texts.places;
            highs = All-weaker (IsCharacter (structs_of scope) f.offset 0 c) (λ i. init_end (structs_of scope) i ≤ high) (λ i ch. (text_low scope n low high c f i is g.going.range within ch).1) items texts.places;
            going = record {
              chain = record { parts = λ k h. parts.parts k (omega (arith, h, within)); ordered = λ j k h l. parts.ordered j k h (omega (arith, l, within)) };
              below = any_of (λ x. Below (structs_of scope) n x (frames (full_of (in_braces f) text))) (ends_of scope items) (λ x. ((λ k h l. absurd (omega (arith, h, l))), tt));
              range = ((λ k h. g.going.range.0 k (omega (arith, h, within))), tt);
              counts = tt;
            };
          };
    }

-- what holds behind it
pub record TextIn (scope : Scope) (w : World) (whole : CTypeTree) (done filled : Filled) (v : World) : Type 0 where
  pub result : Result scope done filled v
  pub steady : AreSteady w.structs (frames done.aggregates) → AreSteady w.structs (frames filled.aggregates)
  pub own : (own_frame filled.aggregates).ty ≡ whole

text_braces :
    (scope : Scope) (w v : World) (whole : CTypeTree) (f : Frame) (outer : List Frame) (old : List TInitTree) (at : Pos) (text : List ℕ) (items : List TInitTree)
    → is_text_in_braces (record { inner = f; outer = outer }) ≡ true → (own_frame (record { inner = f; outer = outer })).ty ≡ whole
    → fill_text w (record { ty = whole; offset = f.offset }) (lists.room f.count text) at text ≡ Typed items v
    → TextIn scope w whole (filled_so old (record { inner = f; outer = outer })) (filled_so items (full_of (record { inner = f; outer = outer }) text)) v
text_braces scope w v whole f [] old at text items b own e =
    let parts = and_parts (f.next == 0) (is_text f.ty) (and_parts true ((f.next == 0) && is_text f.ty) b).1 in record {
      result = text_in_braces scope w v f old at text items (eqb-true f.next 0 parts.0) parts.1
          (subst (λ ty. fill_text w (record { ty = ty; offset = f.offset }) (lists.room f.count text) at text ≡ Typed items v) (sym own) e);
      steady = λ s. (text_steady w.structs f.ty f.count (Some (lists.room f.count text)) parts.1 s.0, tt);
      own = own;
    }
text_braces scope w v whole f (g ∷ rest) old at text items b own e =
    let z = eqb-true (length (g ∷ rest)) 0 (and_parts (length (g ∷ rest) == 0) ((f.next == 0) && is_text f.ty) b).0 in absurd (omega (arith, z))

-- ---- which types take an item whole

text_aggregate : (ty : CTypeTree) → IsFalse (takes_text ty) → is_aggregate ty ≡ true
text_aggregate ty f = by (is_aggregate ty) refl f
  where
    by : (b : Bool) → is_aggregate ty ≡ b → IsFalse (not b || is_text ty) → is_aggregate ty ≡ true
    by true e h = e
    by false e h = absurd (false≢true (sym h))

not_not : (ty : CTypeTree) → IsFalse (not (is_aggregate ty)) → is_aggregate ty ≡ true
not_not ty f = by (is_aggregate ty) refl f
  where
    by : (b : Bool) → is_aggregate ty ≡ b → IsFalse (not b) → is_aggregate ty ≡ true
    by true e h = e
    by false e h = absurd (false≢true (sym h))

value_aggregate : (x ty : CTypeTree) → IsFalse (takes_value x ty) → is_aggregate ty ≡ true
value_aggregate Void ty f = not_not ty f
value_aggregate (Int t) ty f = not_not ty f
value_aggregate (Pointer to c) ty f = not_not ty f
value_aggregate (Array of c n) ty f = not_not ty f
value_aggregate (Struct n) ty f = by (is_aggregate ty) refl f
  where
    by : (b : Bool) → is_aggregate ty ≡ b → IsFalse (not b || is_same ty (Struct n)) → is_aggregate ty ≡ true
    by true e h = e
    by false e h = absurd (false≢true (sym h))
value_aggregate (Function n) ty f = not_not ty f

-- ---- one item

pub fill_law :
    (scope : Scope) (w : World) (static : Bool) (p : Part) (at : Pos) (x : TExprTree) → Good w → (EndsFrom w scope → IsTypedValue scope x)
    → AllWith Constants w (At scope (λ item. FillsAny scope p (item ∷ []))) (Is (fill w static p at x))
fill_law scope w static p at x g typed =
    is_with (λ good. law (fill w static p at x) (decls_go.filled_by w static p at _ _) (λ item u r e ends.
    let start = ends_before w u scope good r ends in record { fills = λ top is. fill_typed scope top w u static p at x item start.structs is (typed start) e }))

text_law :
    (scope : Scope) (w : World) (static : Bool) (p : Part) (at : Pos) (text : List ℕ) → AreUsable w scope → AllWith Constants w (At scope (FillsAny scope p)) (WithText w static p at text)
text_law scope w static p at text u =
    either (is_text p.ty)
    (λ e. is_with (λ good. law (fill_text w p (array_count p.ty) at text) (decls_go.fill_text w p _ at text) (λ items v r q ends. text_part scope w v p.ty p.offset at text items e q)))
    (λ e.
    so_with (value scope (expression scope w (written.Strings at text) u)) (λ x v r q k.
    so_with (fill_law scope v static p at x k.good q) (λ item v2 r2 f k2.
    is_with (λ good. typed_so (reaches.stays v2) f))))

-- ---- lists

nothing_more : (scope : Scope) (done : Filled) (w : World) → Result scope done done w
nothing_more scope done w = record { grows = omega arith; fills = λ top n low high ends le f. f }

-- one result and then the next
then_result : {scope : Scope} {v u : World} (a b c : Filled) → (EndsFrom u scope → EndsFrom v scope) → Result scope a b v → Result scope b c u → Result scope a c u
then_result a b c before q r =
    let g = q.grows in
    let h = r.grows in record { grows = omega (arith, g, h); fills = λ top n low high ends le f. r.fills top n low high ends le (q.fills top n low high (before ends) (omega (arith, h, le)) f) }

pub items_with :
    (scope : Scope) (w : World) (static : Bool) (all : CTypeTree) (done : Filled) (items : InitTrees) → AreUsable w scope → AreSteady w.structs (frames done.aggregates) → (own_frame done.aggregates).ty ≡ all
    → AllWith Constants w (Result scope done) (TypesItems w static all done items)
unfolding TypesItems
items_with scope w static all done inits.no_inits u st own good = is_with (λ g. typed_so (reaches.stays w) (nothing_more scope done w)) good
items_with scope w static all done (inits.more_inits (inits.Braces at inner) rest) u st own good =
    at_part (next_part w.structs done.aggregates) (is_with (λ g. refused_so)) (λ p ep.
    either (is_scalar_in_braces done.aggregates) (λ e. in_braces_refused w _ at inner) (λ e.
    let t = taken w done p good st ep in
    so_with (items_with scope w static p.ty (filled_so [] (in_braces (frame_of w.structs p))) inner u (frame_steady w.structs p t.sized, tt) refl) (λ filled v r q k.
    with_so (λ final v2 r2 q2.
    let second = λ (ends : EndsFrom v2 scope). ends_before v v2 scope k.good r2 ends in
    braces_result done filled final p t (λ ends. ends_before w v scope good r (second ends)) second q q2)
    (items_with scope v static all (filled_so (done.items ++ filled.items) (after_part done.aggregates)) rest (usable_after w v scope r u)
    (all_later w.structs v.structs (is_later w v good k.good k.frame) (frames (after_part done.aggregates)) t.after) (own_type done.aggregates ∙ own))))) good
items_with scope w static all done (inits.more_inits (inits.Value (written.Strings at text)) rest) u st own good =
    either (is_text_in_braces done.aggregates)
    (λ e.
    so_with (is_with (λ g. law (fill_text w (record { ty = all; offset = done.aggregates.inner.offset }) (lists.room done.aggregates.inner.count text) at text) (decls_go.fill_text w _ _ at text)
    (λ items v r q. text_braces scope w v all done.aggregates.inner done.aggregates.outer done.items at text items e own q))) (λ items v r q k.
    with_so (λ final v2 r2 q2. then_result done (filled_so items (full_of done.aggregates text)) final (λ ends. ends_before v v2 scope k.good r2 ends) q.result q2)
    (items_with scope v static all (filled_so items (full_of done.aggregates text)) rest (usable_after w v scope r u)
    (all_later w.structs v.structs (is_later w v good k.good k.frame) (frames (full_of done.aggregates text)) (q.steady st)) q.own)))
    (λ e.
    at_part (next_part w.structs done.aggregates) (refused w (written.Strings at text) _) (λ p ep.
    let t = taken w done p good st ep in
    into (λ inner after fl.
    so_with (text_law scope w static inner at text u) (λ items v r q k.
    let reached = fills_reached t.table text_aggregate fl t.sized t.after in
    with_so (λ final v2 r2 q2.
    let before = λ (ends : EndsFrom v2 scope). ends_before v v2 scope k.good r2 ends in
    let start = λ (ends : EndsFrom v2 scope). ends_before w v scope good r (before ends) in
    taken_result done final p inner after items t t.table start start text_aggregate t.sized t.after fl (λ ends. q (before ends)) q2)
    (items_with scope v static all (filled_so (done.items ++ items) after) rest (usable_after w v scope r u)
    (all_later w.structs v.structs (is_later w v good k.good k.frame) (frames after) reached.steady) (ap (λ f. f.ty) reached.same ∙ own_type done.aggregates ∙ own)))))) good
items_with scope w static all done (inits.more_inits (inits.Value e) rest) u st own good =
    at_part (next_part w.structs done.aggregates) (refused w e _) (λ p ep.
    let t = taken w done p good st ep in
    so_with (value scope (expression scope w e u)) (λ x v r q k.
    let later = is_later w v good k.good k.frame in
    let sized = sized_later w.structs v.structs later p.ty t.sized in
    let steady = all_later w.structs v.structs later (frames (after_part done.aggregates)) t.after in
    let table = typed_table v.structs k.good.made k.good.sound in
    let agg = value_aggregate (texpr_type x) in
    into (λ inner after fl.
    let reached = fills_reached table agg fl sized steady in
    so_with (fill_law scope v static inner (expr_pos e) x k.good q) (λ item v2 r2 f k2.
    with_so (λ final v3 r3 q3.
    let third = λ (ends : EndsFrom v3 scope). ends_before v2 v3 scope k2.good r3 ends in
    let second = λ (ends : EndsFrom v3 scope). ends_before v v2 scope k.good r2 (third ends) in
    taken_result done final p inner after (item ∷ []) t table (λ ends. ends_before w v scope good r (second ends)) second agg sized steady fl (λ ends. f (third ends)) q3)
    (items_with scope v2 static all (filled_so (done.items ++ item ∷ []) after) rest (usable_after v v2 scope r2 (usable_after w v scope r u))
    (all_later v.structs v2.structs (is_later v v2 k.good k2.good k2.frame) (frames after) reached.steady) (ap (λ f. f.ty) reached.same ∙ own_type done.aggregates ∙ own)))))) good
