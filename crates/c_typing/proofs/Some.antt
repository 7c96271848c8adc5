-- A good world and a tree have an outcome.
use Rattle.std.proofs.Common.{refl}
use Rattle.std.specs.Prelude.{Bool, Some, []}
use Rattle.c_syntax_written.specs.WrittenParts.{expr_pos}
use Rattle.c_typing.proofs.Changes.{Any, names_any}
use Rattle.c_typing.specs.Constants.{constant_value}
use Rattle.c_syntax_written.specs.Written as written
use Rattle.c_typing.specs.World.{World, Outcome, Typed, Refused, Then, goes_on, stops, Is}
use Rattle.c_typing.specs.Names as names
use Rattle.c_typing.specs.Operands.{OperandTree}
use Rattle.c_typing.specs.Specifiers as specifiers
use Rattle.c_typing.specs.Declarators.{Shape}
use Rattle.c_typing.specs.Typing as typing
use Rattle.c_typing.specs.Typing.{Types, TypesArgs, TypesSpecs, TypesSpec, TypesMembers, TypesMemberNames, TypesEnumerators, TypesDeclarator, TypesParams, Valued}
use Rattle.std.proofs.lemmas.List.Elements.{All-push}
use Rattle.c_typing.specs.Formed.{IsFormed, IsFormedForm}
use Rattle.c_typing.proofs.Later.{form_later}
use Rattle.c_typing.proofs.FormsGo.{type_told_at}
use Rattle.c_typing.proofs.Good.{Good, is_later}
use Rattle.c_typing.proofs.Reaches.{Kept, kept, Goes, typed, AllGo, is_goes, enters, GoesWith, typed_so, forget, AllWith, all_forget, is_with}
use Rattle.c_typing.proofs.TypesGo as types_go
use Rattle.c_typing.proofs.TypesGo.{MadeIn, made_after, no_members_yet, SpecsIn, ShapeIn, ParamsIn, none_yet, no_params_yet, params_after, valued, go, go_list, go_specs, go_spec, go_members, go_names, go_enumerators, go_declarator, go_params}

-- some outcome is of this kind
abbrev pub Has : {A : Type 0} → (Outcome A → Type 0) → Type 0
Has {A} kind = (o : Outcome A) × kind o

pub is_has : {A : Type 0} (x : Outcome A) → Has (Is x)
is_has x = (x, refl)

after : {A : Type 0} {w v : World} {a : A} → Good w → Goes Any w (Typed a v) → Kept w v
after {w = w} {v = v} good (typed r) = kept w v r good

-- where the first part has an outcome, and in each world that it leaves so has the next, both together have one
pub then_has :
    {A B : Type 0} {w : World} {first : Outcome A → Type 0} {next : A → World → Outcome B → Type 0}
    → Good w → AllGo Any w first → Has first → ((a : A) (v : World) → Kept w v → Has (next a v)) → Has (Then first next)
then_has {A} {B} {w} {first} {next} good f h g = by h.0 h.1
  where
    by : (o : Outcome A) → first o → Has (Then first next)
    by (Typed a v) p = let s = g a v (after good (f good _ p)) in (s.0, goes_on p s.1)
    by (Refused r) p = (Refused r, stops p)

-- the same where what the first part leaves has a property
pub so_has :
    {A B : Type 0} {w : World} {first : Outcome A → Type 0} {next : A → World → Outcome B → Type 0} {P : A → World → Type 0}
    → Good w → AllWith Any w P first → Has first → ((a : A) (v : World) → Kept w v → P a v → Has (next a v)) → Has (Then first next)
so_has {A} {B} {w} {first} {next} {P} good f h g = by h.0 h.1
  where
    at : (a : A) (v : World) → first (Typed a v) → GoesWith Any w P (Typed a v) → Has (Then first next)
    at a v p (typed_so r q) = let s = g a v (kept w v r good) q in (s.0, goes_on p s.1)

    by : (o : Outcome A) → first o → Has (Then first next)
    by (Typed a v) p = at a v p (f good _ p)
    by (Refused r) p = (Refused r, stops p)

pub part : {B : Type 0} (w : World) (e : written.ExprTree) {next : OperandTree → World → Outcome B → Type 0} → Good w → Has (Types w e) → ((x : OperandTree) (v : World) → Kept w v → Has (next x v)) → Has (Then (Types w e) next)
part w e good h g = then_has good (go w e) h g

pub value : {B : Type 0} (w : World) (e : written.ExprTree) {next : _ → World → Outcome B → Type 0} → Good w → Has (Types w e) → ((x : _) (v : World) → Kept w v → Has (next x v)) → Has (Then (Valued (Types w e)) next)
value w e good h g = then_has good (valued (go w e)) (then_has good (go w e) h (λ x v k. is_has _)) g

pub of_type_name :
    {w : World} (first : _) {specs : Outcome specifiers.SpecsTree → Type 0} {declarator : World → Outcome Shape → Type 0} → Good w
    → AllWith Any w SpecsIn specs → Has specs → ((v : World) → AllWith Any v (ShapeIn v) (declarator v)) → ((v : World) → Good v → Has (declarator v)) → Has (typing.OfTypeName first specs declarator)
of_type_name first good f h g d =
    then_has good (all_forget f) h (λ s v k. then_has k.good (is_goes (types_go.type_told specifiers.OfPlainType first s v)) (is_has _) (λ base v2 k2.
    then_has k2.good (all_forget (g v2)) (d v2 k2.good) (λ shape v3 k3. is_has _)))

pub of_parameter :
    {w : World} (n : _) (first : _) {specs : Outcome specifiers.SpecsTree → Type 0} {declarator : World → Outcome Shape → Type 0} → Good w
    → AllWith Any w SpecsIn specs → Has specs → ((v : World) → AllWith Any v (ShapeIn v) (declarator v)) → ((v : World) → Good v → Has (declarator v)) → Has (typing.OfParameter n first specs declarator)
of_parameter n first good f h g d =
    then_has good (all_forget f) h (λ s v k. then_has k.good (is_goes (types_go.type_told specifiers.OfParameter first s v)) (is_has _) (λ base v2 k2.
    then_has k2.good (all_forget (g v2)) (d v2 k2.good) (λ shape v3 k3. is_has _)))

mutual
  unfolding Types TypesArgs TypesSpecs TypesSpec TypesMembers TypesMemberNames TypesEnumerators TypesDeclarator TypesParams

  pub some : (w : World) (e : written.ExprTree) → Good w → Has (Types w e)
  some w (written.Word at name) good = is_has _
  some w (written.Number at c) good = is_has _
  some w (written.Character at byte) good = is_has _
  some w (written.Strings at bytes) good = is_has _
  some w (written.Enclosed at e) good = some w e good
  some w (written.Index at a b) good = value w a good (some w a good) (λ x v k. value v b k.good (some v b k.good) (λ y v2 k2. is_has _))
  some w (written.Call at name args) good = then_has good (go_list w _ args) (some_list w _ args good) (λ values v k. is_has _)
  some w (written.Dot at a member) good = part w a good (some w a good) (λ x v k. is_has _)
  some w (written.Arrow at a member) good = value w a good (some w a good) (λ x v k. is_has _)
  some w (written.PostStep at way a) good = part w a good (some w a good) (λ x v k. is_has _)
  some w (written.PreStep at way a) good = part w a good (some w a good) (λ x v k. is_has _)
  some w (written.Unary at op a) good = part w a good (some w a good) (λ x v k. is_has _)
  some w (written.SizeofExpr at a) good = part w a good (some w a good) (λ x v k. is_has _)
  some w (written.SizeofType at specs declarator) good =
      then_has good (all_forget (types_go.of_type_name _ (go_specs w _ _ specs (none_yet w)) (λ v. go_declarator v declarator)))
      (of_type_name _ good (go_specs w _ _ specs (none_yet w)) (some_specs w _ _ specs good) (λ v. go_declarator v declarator) (λ v g. some_declarator v declarator g))
      (λ form v k. is_has _)
  some w (written.Cast at specs declarator a) good =
      then_has good (all_forget (types_go.of_type_name _ (go_specs w _ _ specs (none_yet w)) (λ v. go_declarator v declarator)))
      (of_type_name _ good (go_specs w _ _ specs (none_yet w)) (some_specs w _ _ specs good) (λ v. go_declarator v declarator) (λ v g. some_declarator v declarator g))
      (λ form v k. value v a k.good (some v a k.good) (λ x v2 k2. is_has _))
  some w (written.Binary at op a b) good = value w a good (some w a good) (λ x v k. value v b k.good (some v b k.good) (λ y v2 k2. is_has _))
  some w (written.Cond at c a b) good =
      value w c good (some w c good) (λ z v k. value v a k.good (some v a k.good) (λ x v2 k2. value v2 b k2.good (some v2 b k2.good) (λ y v3 k3. is_has _)))
  some w (written.Assign at a b) good = part w a good (some w a good) (λ x v k. value v b k.good (some v b k.good) (λ y v2 k2. is_has _))
  some w (written.Compound at op a b) good = part w a good (some w a good) (λ x v k. value v b k.good (some v b k.good) (λ y v2 k2. is_has _))
  some w (written.Comma at a b) good = value w a good (some w a good) (λ x v k. value v b k.good (some v b k.good) (λ y v2 k2. is_has _))

  pub some_list : (w : World) (done : _) (es : written.ExprTrees) → Good w → Has (TypesArgs w done es)
  some_list w done written.no_exprs good = is_has _
  some_list w done (written.more_exprs e es) good = value w e good (some w e good) (λ x v k. some_list v _ es k.good)

  pub some_specs : (w : World) (alone : Bool) (done : _) (specs : written.SpecTrees) → Good w → Has (TypesSpecs w alone done specs)
  some_specs w alone done written.no_specs good = is_has _
  some_specs w alone done (written.more_specs spec rest) good = then_has good (all_forget (go_spec w alone spec)) (some_spec w alone spec good) (λ part v k. some_specs v alone _ rest k.good)

  pub some_spec : (w : World) (alone : Bool) (spec : written.SpecTree) → Good w → Has (TypesSpec w alone spec)
  some_spec w alone (written.Storage at word) good = is_has _
  some_spec w alone (written.Const at) good = is_has _
  some_spec w alone (written.Basic at word) good = is_has _
  some_spec w alone (written.TypedefName at name) good = is_has _
  some_spec w alone (written.Struct at tag) good = then_has good (is_goes (forget (types_go.struct_found w alone tag good))) (is_has _) (λ n v k. is_has _)
  some_spec w alone (written.StructBody at tag members) good =
      then_has good (is_goes (forget (types_go.struct_opened w tag good))) (is_has _) (λ n v k.
      then_has k.good (all_forget (go_members v [] members (no_members_yet v))) (some_members v [] members (no_members_yet v) k.good) (λ done v2 k2. is_has _))
  some_spec w alone (written.Enum at tag) good = then_has good (is_goes (types_go.enum_found w tag _)) (is_has _) (λ unit v k. is_has _)
  some_spec w alone (written.EnumBody at tag list) good =
      then_has good (is_goes (types_go.enum_opened w tag)) (is_has _) (λ unit v k.
      then_has k.good (go_enumerators v _ list) (some_enumerators v _ list k.good) (λ next v2 k2. is_has _))

  pub some_members : (w : World) (done : _) (members : written.MemberDeclTrees) → MadeIn done w → Good w → Has (TypesMembers w done members)
  some_members w done written.no_members made good = is_has _
  some_members w done (written.more_members (written.Members at specs list) rest) made good =
      so_has good (go_specs w _ _ specs (none_yet w)) (some_specs w _ _ specs good) (λ s v k p.
      so_has k.good (is_with (λ g. types_go.form_in _ (type_told_at specifiers.OfPlainType (typing.first_of at specs) s v p))) (is_has _) (λ base v2 k2 f.
      let made2 = made_after v v2 done k.good k2.good k2.frame (made_after w v done good k.good k.frame made) in
      so_has k2.good (go_names v2 _ base done list f made2) (some_names v2 _ base done list f made2 k2.good) (λ members v3 k3 made3.
      some_members v3 _ rest made3 k3.good)))

  pub some_names : (w : World) (first : _) (base : _) (done : _) (list : written.DeclaratorTrees) → IsFormedForm w.structs base → MadeIn done w → Good w → Has (TypesMemberNames w first base done list)
  some_names w first base done written.no_declarators f made good = is_has _
  some_names w first base done (written.more_declarators declarator rest) f made good =
      so_has good (go_declarator w declarator) (some_declarator w declarator good) (λ shape v k a.
      let one = form_later w.structs v.structs (is_later w v good k.good k.frame) base f in
      so_has k.good (is_with (λ g. types_go.member_made v first base done shape g (made_after w v done good k.good k.frame made) (types_go.steps_formed w v shape.steps a) one)) (is_has _)
      (λ members v2 k2 made2. some_names v2 first base _ rest (form_later v.structs v2.structs (is_later v v2 k.good k2.good k2.frame) base one) made2 k2.good))

  pub some_enumerators : (w : World) (next : _) (list : written.EnumeratorTrees) → Good w → Has (TypesEnumerators w next list)
  some_enumerators w next written.no_enumerators good = is_has _
  some_enumerators w next (written.more_enumerators (written.Plain at name) rest) good =
      then_has good (is_goes (types_go.enumerator w at at name (Some next))) (is_has _) (λ n v k. some_enumerators v n rest k.good)
  some_enumerators w next (written.more_enumerators (written.Valued at name e) rest) good =
      value w e good (some w e good) (λ x v k. then_has k.good (is_goes (types_go.enumerator v at (expr_pos e) name (constant_value x))) (is_has _) (λ n v2 k2. some_enumerators v2 n rest k2.good))

  pub some_declarator : (w : World) (declarator : written.DeclaratorTree) → Good w → Has (TypesDeclarator w declarator)
  some_declarator w written.Absent good = is_has _
  some_declarator w (written.Name at name) good = is_has _
  some_declarator w (written.Grouped at inner) good = some_declarator w inner good
  some_declarator w (written.Pointer at is_const inner) good = then_has good (all_forget (go_declarator w inner)) (some_declarator w inner good) (λ shape v k. is_has _)
  some_declarator w (written.Array at inner size) good =
      then_has good (all_forget (go_declarator w inner)) (some_declarator w inner good) (λ shape v k. value v size k.good (some v size k.good) (λ x v2 k2. is_has _))
  some_declarator w (written.OpenArray at inner) good = then_has good (all_forget (go_declarator w inner)) (some_declarator w inner good) (λ shape v k. is_has _)
  some_declarator w (written.Function at inner params) good =
      then_has good (all_forget (go_declarator w inner)) (some_declarator w inner good) (λ shape v k.
      then_has (enters k.good) (all_forget (go_params names_any (names.opened v) [] params (no_params_yet (names.opened v)))) (some_params (names.opened v) [] params (no_params_yet (names.opened v)) (enters k.good)) (λ list v2 k2. is_has _))
  some_declarator w (written.VoidFunction at inner) good = then_has good (all_forget (go_declarator w inner)) (some_declarator w inner good) (λ shape v k. is_has _)

  pub some_params : (w : World) (done : _) (params : written.ParamTrees) → ParamsIn done w → Good w → Has (TypesParams w done params)
  some_params w done written.no_params all good = is_has _
  some_params w done (written.more_params (written.Named at specs declarator) rest) all good =
      so_has good ((types_go.of_parameter _ _ names_any (go_specs w _ _ specs (none_yet w)) (λ v. go_declarator v declarator)))
      (of_parameter _ _ good (go_specs w _ _ specs (none_yet w)) (some_specs w _ _ specs good) (λ v. go_declarator v declarator) (λ v g. some_declarator v declarator g))
      (λ param v k p. some_params v _ rest (All-push (λ x. IsFormed v.structs x.ty) done param (params_after w v done (is_later w v good k.good k.frame) all) p) k.good)
  some_params w done (written.more_params (written.Abstract at specs declarator) rest) all good =
      so_has good ((types_go.of_parameter _ _ names_any (go_specs w _ _ specs (none_yet w)) (λ v. go_declarator v declarator)))
      (of_parameter _ _ good (go_specs w _ _ specs (none_yet w)) (some_specs w _ _ specs good) (λ v. go_declarator v declarator) (λ v g. some_declarator v declarator g))
      (λ param v k p. some_params v _ rest (All-push (λ x. IsFormed v.structs x.ty) done param (params_after w v done (is_later w v good k.good k.frame) all) p) k.good)
