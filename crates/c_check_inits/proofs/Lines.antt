-- An item and then those behind it: the lines of lists, as the items give them.
use Rattle.std.proofs.Common.{◌≡◌, subst, true, false, List, [], ◌∷◌, ◌++◌}
use Rattle.std.specs.Prelude.{ℕ, Bool, Option, Some, None}
use Rattle.c_syntax_written.specs.declared.place.Pos.{Pos}
use Rattle.c_syntax_written.specs.Written as written
use Rattle.c_syntax_written.specs.Written.{ExprTree}
use Rattle.c_syntax_written.specs.WrittenParts.{expr_pos}
use Rattle.c_syntax_written.specs.WrittenDecl as decls
use Rattle.c_syntax_written.specs.WrittenDecl.{InitTree, InitTrees}
use Rattle.c_syntax.specs.Program.{StructDefTree}
use Rattle.c_syntax.specs.Types.{CTypeTree}
use Rattle.c_syntax.specs.TypedParts.{texpr_type}
use Rattle.c_typing.specs.CurrentObject.{Part, Aggregates, Frame, in_braces, frame_of, next_part, after_part, takes_value, takes_text, is_text_in_braces, is_scalar_in_braces}
use Rattle.c_typing.specs.Inits.{AtPart, Either, Into, WithText, TypesItems, TypesInBraces, TypesInit, Initialised, Filled, filled_so, full_of, fill, fill_text, room, excess}
use Rattle.c_typing.specs.Typing.{Types, Valued}
use Rattle.c_typing.specs.World.{World, Refusal, Outcome, Typed, Refused, NotConstant, Then, goes_on, stops, Is}
use Rattle.c_check_inits.specs.Forms.{OneTooMany, ValueItem, TextItem, ListInBraces, ListItem, ItemForm, ByExpression, as_text}

-- ---- a part of a part

-- what is typed, and then what depends on it
pub then_typed : {A B : Type 0} {x : A} {w : World} {last : A → World → Outcome B → Type 0} {o : Outcome B} → Then (Is (Typed x w)) last o → last x w o
then_typed {x = x} {w = w} {last = last} {o = o} (goes_on {a = a} {w = v} e q) =
    let a_is : a ≡ x = cc in
    let v_is : v ≡ w = cc in
    subst (λ u. last x u o) v_is (subst (λ y. last y v o) a_is q)
then_typed (stops e) = cc

-- a part of a part
pub two_then : {A B C : Type 0} {first : Outcome A → Type 0} {next : A → World → Outcome B → Type 0} {last : B → World → Outcome C → Type 0}
    {next2 : A → World → Outcome C → Type 0} {o : Outcome C}
    → ((x : A) (w : World) → Then (next x w) last o → next2 x w o) → Then (Then first next) last o → Then first next2 o
two_then f (goes_on (goes_on p q) r) = goes_on p (f _ _ (goes_on q r))
two_then f (stops (goes_on p q)) = goes_on p (f _ _ (stops q))
two_then f (stops (stops p)) = stops p

-- a part, what is made of it, and then what depends on that
pub then_made : {A B C : Type 0} {first : Outcome A → Type 0} {made : A → World → B} {last : B → World → Outcome C → Type 0} {o : Outcome C}
    → Then (Then first (λ x w. Is (Typed (made x w) w))) last o → Then first (λ x w. last (made x w) w) o
then_made {made = made} {last = last} {o = o} = two_then (λ x w. then_typed {x = made x w} {w = w} {last = last} {o = o})

-- what is refused is so with what would follow
pub then_refused : {A B : Type 0} {first : Outcome A → Type 0} {refusal : A → World → Refusal} {last : B → World → Outcome B → Type 0} {o : Outcome B}
    → Then (Then first (λ x w. Is (Refused (refusal x w)))) last o → Then first (λ x w. Is (Refused (refusal x w))) o
then_refused (goes_on (goes_on p e) q) = cc
then_refused (stops (goes_on p e)) = goes_on p e
then_refused (stops (stops p)) = stops p

pub is_refused : {B : Type 0} {r : Refusal} {last : B → World → Outcome B → Type 0} {o : Outcome B} → Then (Is (Refused r)) last o → Is (Refused r) o
is_refused (goes_on e q) = cc
is_refused (stops e) = e

-- ---- which way is taken, and then what depends on it

at_then : {A : Type 0} (part : Option Part) (full full2 : Outcome A → Type 0) (next next2 : Part → Outcome A → Type 0) (last : A → World → Outcome A → Type 0) (o : Outcome A)
    → (Then full last o → full2 o) → ((p : Part) → Then (next p) last o → next2 p o) → Then (AtPart part full next) last o → AtPart part full2 next2 o
unfolding AtPart
at_then None full full2 next next2 last o f g p = f p
at_then (Some part) full full2 next next2 last o f g p = g part p

either_then : {A : Type 0} (b : Bool) (one one2 other other2 : Outcome A → Type 0) (last : A → World → Outcome A → Type 0) (o : Outcome A)
    → (Then one last o → one2 o) → (Then other last o → other2 o) → Then (Either b one other) last o → Either b one2 other2 o
unfolding Either
either_then true one one2 other other2 last o f g p = f p
either_then false one one2 other other2 last o f g p = g p

into_then : {A : Type 0} (structs : List StructDefTree) (takes : CTypeTree → Bool) (part : Part) (a : Aggregates) (next next2 : Part → Aggregates → Outcome A → Type 0)
    (last : A → World → Outcome A → Type 0) (o : Outcome A)
    → ((p : Part) (b : Aggregates) → Then (next p b) last o → next2 p b o) → Then (Into structs takes part a next) last o → Into structs takes part a next2 o
into_then structs takes part a next next2 last o f (goes_on p q) =
    record { part2 = p.part2; after = p.after; fills = p.fills; goes = f p.part2 p.after (goes_on p.goes q) }
into_then structs takes part a next next2 last o f (stops p) =
    record { part2 = p.part2; after = p.after; fills = p.fills; goes = f p.part2 p.after (stops p.goes) }

-- ---- items

-- the items behind one
abbrev pub Behind : Bool → CTypeTree → InitTrees → Filled → World → Outcome Filled → Type 0
Behind static whole rest filled w o = TypesItems w static whole filled rest o

-- an expression and those behind it
abbrev pub ValueAndRest : World → Bool → CTypeTree → Filled → ExprTree → InitTrees → Outcome Filled → Type 0
ValueAndRest w static whole done e rest o =
    AtPart (next_part w.structs done.aggregates) (OneTooMany w whole e) (λ part.
    Then (Valued (Types w e)) (λ x w1.
    Into w1.structs (takes_value (texpr_type x)) part (after_part done.aggregates) (λ inner after.
    Then (Is (fill w1 static inner (expr_pos e) x)) (λ item w2. TypesItems w2 static whole (filled_so (done.items ++ item ∷ []) after) rest)))) o

value_then : (w : World) (static : Bool) (whole : CTypeTree) (done : Filled) (e : ExprTree) (rest : InitTrees) (o : Outcome Filled)
    → Then (ValueItem w static whole done e) (Behind static whole rest) o → ValueAndRest w static whole done e rest o
value_then w static whole done e rest o =
    at_then (next_part w.structs done.aggregates) _ _ _ _ (Behind static whole rest) o then_refused
    (λ part. two_then (λ x w1. into_then _ _ _ _ _ _ (Behind static whole rest) o (λ inner after. then_made {last = Behind static whole rest})))

-- a literal and those behind it
abbrev pub TextAndRest : World → Bool → CTypeTree → Filled → Pos → List ℕ → InitTrees → Outcome Filled → Type 0
TextAndRest w static whole done at text rest o =
    Either (is_text_in_braces done.aggregates)
    (Then (Is (fill_text w (record { ty = whole; offset = done.aggregates.inner.offset }) (room done.aggregates.inner.count text) at text)) (λ items w1.
    TypesItems w1 static whole (filled_so items (full_of done.aggregates text)) rest))
    (AtPart (next_part w.structs done.aggregates) (OneTooMany w whole (written.Strings at text)) (λ part.
    Into w.structs takes_text part (after_part done.aggregates) (λ inner after.
    Then (WithText w static inner at text) (λ items w1. TypesItems w1 static whole (filled_so (done.items ++ items) after) rest)))) o

text_then : (w : World) (static : Bool) (whole : CTypeTree) (done : Filled) (at : Pos) (text : List ℕ) (rest : InitTrees) (o : Outcome Filled)
    → Then (TextItem w static whole done at text) (Behind static whole rest) o → TextAndRest w static whole done at text rest o
text_then w static whole done at text rest o =
    either_then (is_text_in_braces done.aggregates) _ _ _ _ (Behind static whole rest) o (then_made {last = Behind static whole rest})
    (at_then (next_part w.structs done.aggregates) _ _ _ _ (Behind static whole rest) o then_refused
    (λ part. into_then _ _ _ _ _ _ (Behind static whole rest) o (λ inner after. then_made {last = Behind static whole rest})))

-- a scalar that has its braces twice is refused
braces_refused : (w : World) (whole : CTypeTree) (at : Pos) (list : InitTrees) (last : Filled → World → Outcome Filled → Type 0) (o : Outcome Filled)
    → Then (ListInBraces w whole at list) last o → ListInBraces w whole at list o
unfolding TypesInBraces
braces_refused w whole at decls.no_inits last o p = is_refused p
braces_refused w whole at (decls.more_inits (decls.Braces inner_at inner) rest) last o p = braces_refused w whole inner_at inner last o p
braces_refused w whole at (decls.more_inits (decls.Value e) rest) last o p = then_refused p

-- a list in its braces and those behind it
abbrev pub ListAndRest : World → Bool → CTypeTree → Filled → Pos → InitTrees → InitTrees → Outcome Filled → Type 0
ListAndRest w static whole done at inner rest o =
    AtPart (next_part w.structs done.aggregates) (Is (Refused (excess w whole at))) (λ part.
    Either (is_scalar_in_braces done.aggregates) (ListInBraces w whole at inner)
    (Then (TypesItems w static part.ty (filled_so [] (in_braces (frame_of w.structs part))) inner) (λ filled w1.
    TypesItems w1 static whole (filled_so (done.items ++ filled.items) (after_part done.aggregates)) rest))) o

list_then : (w : World) (static : Bool) (whole : CTypeTree) (done : Filled) (at : Pos) (inner rest : InitTrees) (o : Outcome Filled)
    → Then (ListItem w static whole done at inner) (Behind static whole rest) o → ListAndRest w static whole done at inner rest o
list_then w static whole done at inner rest o =
    at_then (next_part w.structs done.aggregates) _ _ _ _ (Behind static whole rest) o is_refused (λ part.
    either_then (is_scalar_in_braces done.aggregates) _ _ _ _ (Behind static whole rest) o
    (braces_refused w whole at inner (Behind static whole rest) o) (then_made {last = Behind static whole rest}))

-- an item and those behind it
pub items_line : (w : World) (static : Bool) (whole : CTypeTree) (done : Filled) (item : InitTree) (rest : InitTrees) (o : Outcome Filled)
    → Then (ItemForm w static whole done item) (λ filled w1. TypesItems w1 static whole filled rest) o → TypesItems w static whole done (decls.more_inits item rest) o
unfolding TypesItems
items_line w static whole done (decls.Braces at inner) rest o p = list_then w static whole done at inner rest o p
items_line w static whole done (decls.Value (written.Strings at text)) rest o p = text_then w static whole done at text rest o p
items_line w static whole done (decls.Value (written.Word at name)) rest o p = value_then w static whole done (written.Word at name) rest o p
items_line w static whole done (decls.Value (written.Number at c)) rest o p = value_then w static whole done (written.Number at c) rest o p
items_line w static whole done (decls.Value (written.Character at byte)) rest o p = value_then w static whole done (written.Character at byte) rest o p
items_line w static whole done (decls.Value (written.Enclosed at a)) rest o p = value_then w static whole done (written.Enclosed at a) rest o p
items_line w static whole done (decls.Value (written.Index at a b)) rest o p = value_then w static whole done (written.Index at a b) rest o p
items_line w static whole done (decls.Value (written.Call at name args)) rest o p = value_then w static whole done (written.Call at name args) rest o p
items_line w static whole done (decls.Value (written.Dot at a name)) rest o p = value_then w static whole done (written.Dot at a name) rest o p
items_line w static whole done (decls.Value (written.Arrow at a name)) rest o p = value_then w static whole done (written.Arrow at a name) rest o p
items_line w static whole done (decls.Value (written.PostStep at way a)) rest o p = value_then w static whole done (written.PostStep at way a) rest o p
items_line w static whole done (decls.Value (written.PreStep at way a)) rest o p = value_then w static whole done (written.PreStep at way a) rest o p
items_line w static whole done (decls.Value (written.Unary at op a)) rest o p = value_then w static whole done (written.Unary at op a) rest o p
items_line w static whole done (decls.Value (written.SizeofExpr at a)) rest o p = value_then w static whole done (written.SizeofExpr at a) rest o p
items_line w static whole done (decls.Value (written.SizeofType at specs d)) rest o p = value_then w static whole done (written.SizeofType at specs d) rest o p
items_line w static whole done (decls.Value (written.Cast at specs d a)) rest o p = value_then w static whole done (written.Cast at specs d a) rest o p
items_line w static whole done (decls.Value (written.Binary at op a b)) rest o p = value_then w static whole done (written.Binary at op a b) rest o p
items_line w static whole done (decls.Value (written.Cond at c a b)) rest o p = value_then w static whole done (written.Cond at c a b) rest o p
items_line w static whole done (decls.Value (written.Assign at a b)) rest o p = value_then w static whole done (written.Assign at a b) rest o p
items_line w static whole done (decls.Value (written.Compound at op a b)) rest o p = value_then w static whole done (written.Compound at op a b) rest o p
items_line w static whole done (decls.Value (written.Comma at a b)) rest o p = value_then w static whole done (written.Comma at a b) rest o p

pub no_items_line : (w : World) (static : Bool) (whole : CTypeTree) (done : Filled) (o : Outcome Filled) → o ≡ Typed done w
    → TypesItems w static whole done decls.no_inits o
unfolding TypesItems
no_items_line w static whole done o p = p

-- ---- a list in the braces of a scalar

pub no_list_line : (w : World) (whole : CTypeTree) (at : Pos) (o : Outcome Filled) → o ≡ Refused (NotConstant at) → ListInBraces w whole at decls.no_inits o
unfolding TypesInBraces
no_list_line w whole at o p = p

pub inner_list_line : (w : World) (whole : CTypeTree) (at inner_at : Pos) (inner rest : InitTrees) (o : Outcome Filled) → ListInBraces w whole inner_at inner o
    → ListInBraces w whole at (decls.more_inits (decls.Braces inner_at inner) rest) o
unfolding TypesInBraces
inner_list_line w whole at inner_at inner rest o p = p

pub expression_line : (w : World) (whole : CTypeTree) (at : Pos) (e : ExprTree) (rest : InitTrees) (o : Outcome Filled) → OneTooMany w whole e o
    → ListInBraces w whole at (decls.more_inits (decls.Value e) rest) o
unfolding TypesInBraces
expression_line w whole at e rest o p = p

-- ---- whole initialisers

pub whole_line : (w : World) (static : Bool) (ty : CTypeTree) (frame : Frame) (e : ExprTree) (o : Outcome Initialised)
    → ByExpression w static ty frame e (as_text e) o → TypesInit w static ty frame (decls.Value e) o
whole_line w static ty frame (written.Strings at text) o p = p
whole_line w static ty frame (written.Word at name) o p = p
whole_line w static ty frame (written.Number at c) o p = p
whole_line w static ty frame (written.Character at byte) o p = p
whole_line w static ty frame (written.Enclosed at a) o p = p
whole_line w static ty frame (written.Index at a b) o p = p
whole_line w static ty frame (written.Call at name args) o p = p
whole_line w static ty frame (written.Dot at a name) o p = p
whole_line w static ty frame (written.Arrow at a name) o p = p
whole_line w static ty frame (written.PostStep at way a) o p = p
whole_line w static ty frame (written.PreStep at way a) o p = p
whole_line w static ty frame (written.Unary at op a) o p = p
whole_line w static ty frame (written.SizeofExpr at a) o p = p
whole_line w static ty frame (written.SizeofType at specs d) o p = p
whole_line w static ty frame (written.Cast at specs d a) o p = p
whole_line w static ty frame (written.Binary at op a b) o p = p
whole_line w static ty frame (written.Cond at c a b) o p = p
whole_line w static ty frame (written.Assign at a b) o p = p
whole_line w static ty frame (written.Compound at op a b) o p = p
whole_line w static ty frame (written.Comma at a b) o p = p
