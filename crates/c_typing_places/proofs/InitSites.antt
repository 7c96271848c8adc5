-- What initialisers store stands at the places of what is written.
use Rattle.std.proofs.Common.{◌≡◌, ℕ, ◌+◌, Bool, true, false, List, [], ◌∷◌, ◌++◌, refl, sym, subst}
use Rattle.std.specs.Prelude.{Option, Some, None}
use Rattle.std.specs.List.{flat_map}
use Rattle.std.proofs.lemmas.List.{append-nil, append_assoc}
use Rattle.std.proofs.lemmas.List.Concat.{flat_map-append}
use Rattle.c_syntax_written.specs.declared.place.Pos.{Pos}
use Rattle.c_syntax_written.specs.declared.int_type.IntType.{IntType}
use Rattle.c_syntax_written.specs.Written as written
use Rattle.c_syntax_written.specs.Written.{ExprTree}
use Rattle.c_syntax_written.specs.WrittenParts.{expr_pos}
use Rattle.c_syntax_written.specs.WrittenDecl as inits
use Rattle.c_syntax_written.specs.WrittenDecl.{InitTree, InitTrees}
use Rattle.c_syntax.specs.Types.{CTypeTree}
use Rattle.c_syntax.specs.TypedExpr.{TExprTree}
use Rattle.c_syntax.specs.TypedParts.{texpr_type}
use Rattle.c_syntax.specs.TypedStmt.{TInitTree}
use Rattle.c_syntax.specs.Program.{StructDefTree}
use Rattle.c_grammar_laws.specs.NodePlaces.{expr_places, init_places, inits_places}
use Rattle.c_typing.specs.World.{World, Refusal, Outcome, Typed, Refused, Then, Is}
use Rattle.c_typing.specs.Rows.{Stored, Scalar, Copied}
use Rattle.c_typing.specs.CurrentObject.{Part, Frame, Aggregates, frame_of, in_braces, next_part, after_part, takes_value, takes_text, is_text, is_text_in_braces, is_scalar_in_braces}
use Rattle.c_typing.specs.Typing.{Types, Valued}
use Rattle.c_typing.specs.Inits.{item_of, filled_by, fill, text_items, text_for, element_type, fill_text, room, full_of, Filled, filled_so, AtPart, Either, Into, TypedAndRefused, excess, WithText, TypesItems, TypesInBraces, whole_part, ByText, ByValue, TypesInit}
use Rattle.c_sites.specs.Sites.{Site, sites_of, init_sites}
use Rattle.c_typing_laws.proofs.Outcomes.{TypedAs, typed_as, refused_as, AllTyped, then_as, is_as, as_made, as_unless}
use Rattle.c_sites.proofs.InLists.{Within, within_itself, Distinct, distinct_left, distinct_right}
use Rattle.c_typing_places.proofs.Spread.{Among, among_none, among_within, among_both}
use Rattle.c_typing_places.proofs.RowSites.{stored_sites, StoredMade, not_stored, is_stored, stored_made}
use Rattle.c_typing_places.proofs.ExprSites.{SpreadBy, valued, expr_spread}

abbrev pub stored_in : List TInitTree → List Site
stored_in items = flat_map init_sites items

refused : {A : Type 0} {P : A → World → Type 0} {r : Refusal} → AllTyped P (Is (Refused r))
refused = is_as refused_as

-- ---- one item

item_sites_are : (offset : ℕ) (ty : CTypeTree) (s : Stored) → init_sites (item_of offset ty s) ≡ stored_sites s
item_sites_are offset ty (Scalar value) = refl
item_sites_are offset ty (Copied extent source) = refl

filled_made : (w : World) (static : Bool) (part : Part) (at : Pos) (r : Refusal) {xs : List Site} {row : Option Stored} → StoredMade xs row → TypedAs (λ item v. Within (init_sites item) xs) (filled_by w static part at r row)
filled_made w static part at r not_stored = refused_as
filled_made w static part at r {xs} (is_stored {s} f) = as_unless _ _ (λ e. typed_as (subst (λ ys. Within ys xs) (sym (item_sites_are part.offset part.ty s)) f))

fill_made : (w : World) (static : Bool) (part : Part) (at : Pos) (e : TExprTree) → TypedAs (λ item v. Within (init_sites item) (sites_of e)) (fill w static part at e)
fill_made w static part at e = filled_made w static part at _ (stored_made w.structs part.ty (texpr_type e) e)

-- an item that is stored where an expression stands
fill_spread : (ps : List Pos) (w : World) (static : Bool) (part : Part) (at : Pos) (e : TExprTree) → Among ps (sites_of e) → AllTyped (λ item v. Among ps (init_sites item)) (Is (fill w static part at e))
fill_spread ps w static part at e a = is_as (as_made (λ item v f. among_within a f within_itself) (fill_made w static part at e))

text_nothing : (at : Pos) (t : IntType) (offset : ℕ) (text : List ℕ) → stored_in (text_items at t offset text) ≡ []
unfolding text_items sites_of
text_nothing at t offset [] = refl
text_nothing at t offset (byte ∷ rest) = text_nothing at t (offset + 1) rest

text_made : (w : World) (part : Part) (n : ℕ) (at : Pos) (text : List ℕ) → TypedAs (λ items v. stored_in items ≡ []) (fill_text w part n at text)
text_made w part n at text = as_unless _ _ (λ e. typed_as (text_nothing at (element_type part.ty) part.offset (text_for n text)))

text_spread : (ps : List Pos) (w : World) (part : Part) (n : ℕ) (at : Pos) (text : List ℕ) → AllTyped (SpreadBy stored_in ps) (Is (fill_text w part n at text))
text_spread ps w part n at text = is_as (as_made (λ items v e. subst (Among ps) (sym e) among_none) (text_made w part n at text))

alone : (ps : List Pos) (item : TInitTree) → Among ps (init_sites item) → Among ps (stored_in (item ∷ []))
alone ps item a = subst (Among ps) (sym (append-nil (init_sites item))) a

-- ---- lists

at_part : {A : Type 0} {P : A → World → Type 0} (o : Option Part) {full : Outcome A → Type 0} {next : Part → Outcome A → Type 0} → AllTyped P full → ((part : Part) → AllTyped P (next part)) → AllTyped P (AtPart o full next)
unfolding AtPart
at_part None f g = f
at_part (Some part) f g = g part

either : {A : Type 0} {P : A → World → Type 0} (b : Bool) {one other : Outcome A → Type 0} → AllTyped P one → AllTyped P other → AllTyped P (Either b one other)
unfolding Either
either true f g = f
either false f g = g

into : {A : Type 0} {P : A → World → Type 0} (structs : List StructDefTree) (takes : CTypeTree → Bool) (part : Part) (a : Aggregates) {next : Part → Aggregates → Outcome A → Type 0} → ((inner : Part) (after : Aggregates) → AllTyped P (next inner after))
    → AllTyped P (Into structs takes part a next)
into structs takes part a f o i = f i.part2 i.after o i.goes

not_typed : {A : Type 0} {P : A → World → Type 0} (w : World) (e : ExprTree) (r : World → Refusal) → AllTyped P (TypedAndRefused w e r)
not_typed w e r = then_as {P = λ x v. Unit {0}} (λ o k. nothing o) (λ x v u. refused)
  where
    nothing : (o : Outcome TExprTree) → TypedAs (λ (x : TExprTree) (v : World). Unit {0}) o
    nothing (Typed x v) = typed_as tt
    nothing (Refused q) = refused_as

in_braces_not : (items : InitTrees) (w : World) (r : World → ExprTree → Refusal) (at : Pos) {P : Filled → World → Type 0} → AllTyped P (TypesInBraces w r at items)
unfolding TypesInBraces
in_braces_not inits.no_inits w r at = refused
in_braces_not (inits.more_inits (inits.Braces inner_at inner) rest) w r at = in_braces_not inner w r inner_at
in_braces_not (inits.more_inits (inits.Value e) rest) w r at = not_typed w e (λ v. r v e)

with_text : (w : World) (static : Bool) (part : Part) (at : Pos) (text : List ℕ) → Distinct (at ∷ []) → AllTyped (SpreadBy stored_in (at ∷ [])) (WithText w static part at text)
unfolding expr_places
with_text w static part at text d =
    either (is_text part.ty) (text_spread (at ∷ []) w part _ at text)
    (then_as (valued (expr_spread (written.Strings at text) w d)) (λ x v a. then_as (fill_spread (at ∷ []) v static part at x a) (λ item u b. is_as (typed_as (alone (at ∷ []) item b)))))

-- what is stored, and more behind it
and_more : (ps qs : List Pos) (items more : List TInitTree) → Distinct (ps ++ qs) → Among ps (stored_in items) → Among qs (stored_in more) → Among (ps ++ qs) (stored_in (items ++ more))
and_more ps qs items more d a b = subst (Among (ps ++ qs)) (sym (flat_map-append init_sites items more)) (among_both ps qs (stored_in items) (stored_in more) d a b)

first_two : (ps qs rs : List Pos) → Distinct (ps ++ (qs ++ rs)) → Distinct ((ps ++ qs) ++ rs)
first_two ps qs rs d = subst Distinct (sym (append_assoc ps qs rs)) d

abbrev Stores : List Pos → Filled → World → Type 0
Stores ps filled v = Among ps (stored_in filled.items)

-- the rest of a list, behind an item
abbrev Goes : InitTrees → Type 0
Goes rest =
    (w : World) (static : Bool) (whole : CTypeTree) (done : Filled) (ps : List Pos) → Distinct (ps ++ inits_places rest) → Among ps (stored_in done.items)
    → AllTyped (Stores (ps ++ inits_places rest)) (TypesItems w static whole done rest)

go_on :
    (rest : InitTrees) → Goes rest → (w : World) (static : Bool) (whole : CTypeTree) (items : List TInitTree) (a : Aggregates) (ps qs : List Pos) → Distinct (ps ++ (qs ++ inits_places rest))
    → Among (ps ++ qs) (stored_in items) → AllTyped (Stores (ps ++ (qs ++ inits_places rest))) (TypesItems w static whole (filled_so items a) rest)
go_on rest go w static whole items a ps qs d s =
    subst (λ rs. AllTyped (Stores rs) (TypesItems w static whole (filled_so items a) rest)) (append_assoc ps qs (inits_places rest))
    (go w static whole (filled_so items a) (ps ++ qs) (first_two ps qs (inits_places rest) d) s)

-- an expression in the next part
value_step :
    (e : ExprTree) (rest : InitTrees) → Goes rest → (w : World) (static : Bool) (whole : CTypeTree) (done : Filled) (ps : List Pos) → Distinct (ps ++ (expr_places e ++ inits_places rest)) → Among ps (stored_in done.items)
    → AllTyped (Stores (ps ++ (expr_places e ++ inits_places rest)))
    (AtPart (next_part w.structs done.aggregates) (TypedAndRefused w e (λ v. excess v whole (expr_pos e))) (λ part.
    Then (Valued (Types w e)) (λ x w1.
    Into w1.structs (takes_value (texpr_type x)) part (after_part done.aggregates) (λ inner after.
    Then (Is (fill w1 static inner (expr_pos e) x)) (λ item w2. TypesItems w2 static whole (filled_so (done.items ++ item ∷ []) after) rest)))))
value_step e rest go w static whole done ps d a =
    let d2 = first_two ps (expr_places e) (inits_places rest) d in
    let d1 = distinct_left (ps ++ expr_places e) (inits_places rest) d2 in
    at_part (next_part w.structs done.aggregates) (not_typed w e (λ v. excess v whole (expr_pos e))) (λ part.
    then_as (valued (expr_spread e w (distinct_right ps (expr_places e) d1))) (λ x w1 b.
    into w1.structs (takes_value (texpr_type x)) part (after_part done.aggregates) (λ inner after.
    then_as (fill_spread (expr_places e) w1 static inner (expr_pos e) x b) (λ item w2 c.
    go_on rest go w2 static whole (done.items ++ item ∷ []) after ps (expr_places e) d
    (and_more ps (expr_places e) done.items (item ∷ []) d1 a (alone (expr_places e) item c))))))

-- a literal, which fills an array or the next part
text_step :
    (at : Pos) (text : List ℕ) (rest : InitTrees) → Goes rest → (w : World) (static : Bool) (whole : CTypeTree) (done : Filled) (ps : List Pos) → Distinct (ps ++ (at ∷ [] ++ inits_places rest)) → Among ps (stored_in done.items)
    → AllTyped (Stores (ps ++ (at ∷ [] ++ inits_places rest))) (TypesItems w static whole done (inits.more_inits (inits.Value (written.Strings at text)) rest))
unfolding TypesItems
text_step at text rest go w static whole done ps d a =
    let d2 = first_two ps (at ∷ []) (inits_places rest) d in
    let d1 = distinct_left (ps ++ at ∷ []) (inits_places rest) d2 in
    either (is_text_in_braces done.aggregates)
    (then_as (text_spread (ps ++ at ∷ []) w _ _ at text) (λ items w1 b. go_on rest go w1 static whole items (full_of done.aggregates text) ps (at ∷ []) d b))
    (at_part (next_part w.structs done.aggregates) (not_typed w (written.Strings at text) (λ v. excess v whole at)) (λ part.
    into w.structs takes_text part (after_part done.aggregates) (λ inner after.
    then_as (with_text w static inner at text (distinct_right ps (at ∷ []) d1)) (λ items w1 b.
    go_on rest go w1 static whole (done.items ++ items) after ps (at ∷ []) d (and_more ps (at ∷ []) done.items items d1 a b)))))

-- a list in braces in the next part
braces_step :
    (at : Pos) (inner rest : InitTrees) → Goes inner → Goes rest → (w : World) (static : Bool) (whole : CTypeTree) (done : Filled) (ps : List Pos) → Distinct (ps ++ (inits_places inner ++ inits_places rest))
    → Among ps (stored_in done.items)
    → AllTyped (Stores (ps ++ (inits_places inner ++ inits_places rest))) (TypesItems w static whole done (inits.more_inits (inits.Braces at inner) rest))
unfolding TypesItems
braces_step at inner rest go_inner go w static whole done ps d a =
    let d2 = first_two ps (inits_places inner) (inits_places rest) d in
    let d1 = distinct_left (ps ++ inits_places inner) (inits_places rest) d2 in
    at_part (next_part w.structs done.aggregates) refused (λ part.
    either (is_scalar_in_braces done.aggregates) (in_braces_not inner w (λ v e. excess v whole (expr_pos e)) at)
    (then_as (go_inner w static part.ty (filled_so [] (in_braces (frame_of w.structs part))) [] (distinct_right ps (inits_places inner) d1) among_none) (λ filled w1 b.
    go_on rest go w1 static whole (done.items ++ filled.items) (after_part done.aggregates) ps (inits_places inner) d
    (and_more ps (inits_places inner) done.items filled.items d1 a b))))

pub items_spread : (items : InitTrees) → Goes items
unfolding TypesItems inits_places init_places expr_places
items_spread inits.no_inits w static whole done ps d a = is_as (typed_as (subst (λ qs. Among qs (stored_in done.items)) (sym (append-nil ps)) a))
items_spread (inits.more_inits (inits.Braces at inner) rest) w static whole done ps d a = braces_step at inner rest (items_spread inner) (items_spread rest) w static whole done ps d a
items_spread (inits.more_inits (inits.Value (written.Strings at text)) rest) w static whole done ps d a = text_step at text rest (items_spread rest) w static whole done ps d a
items_spread (inits.more_inits (inits.Value e) rest) w static whole done ps d a = value_step e rest (items_spread rest) w static whole done ps d a

-- ---- whole initialisers

by_value_spread : (e : ExprTree) (w : World) (static : Bool) (ty : CTypeTree) → Distinct (expr_places e) → AllTyped (λ by v. Among (expr_places e) (stored_in by.items)) (ByValue w static ty e)
by_value_spread e w static ty d =
    then_as (valued (expr_spread e w d)) (λ x v a. then_as (fill_spread (expr_places e) v static (whole_part ty) (expr_pos e) x a) (λ item u b. is_as (typed_as (alone (expr_places e) item b))))

by_text_spread : (ps : List Pos) (w : World) (part : Part) (count : Option ℕ) (at : Pos) (text : List ℕ) → AllTyped (λ by v. Among ps (stored_in by.items)) (ByText w part count at text)
by_text_spread ps w part count at text = then_as (text_spread ps w part (room count text) at text) (λ items v a. is_as (typed_as a))

pub init_spread : (init : InitTree) (w : World) (static : Bool) (ty : CTypeTree) (frame : Frame) → Distinct (init_places init) → AllTyped (λ by v. Among (init_places init) (stored_in by.items)) (TypesInit w static ty frame init)
unfolding init_places expr_places
init_spread (inits.Braces at items) w static ty frame d =
    then_as (items_spread items w static ty (filled_so [] (in_braces frame)) [] d among_none) (λ filled v a. is_as (typed_as a))
init_spread (inits.Value (written.Strings at text)) w static ty frame d = either (is_text ty) (by_text_spread (at ∷ []) w (whole_part ty) frame.count at text) (by_value_spread (written.Strings at text) w static ty d)
init_spread (inits.Value e) w static ty frame d = by_value_spread e w static ty d
