-- The program at the end of the file, as it is seen from worlds before.
use Rattle.std.proofs.Common.{◌≡◌, ℕ, List, [], ap, sym, subst, ◌∙◌, arith}
use Rattle.std.specs.Prelude.{Some, option_map, unwrap_or, All, slice_get}
use Rattle.std.proofs.lemmas.Option.{slice_get_within}
use Rattle.c_syntax.specs.Types.{Void}
use Rattle.c_syntax.specs.Program.{TFunctionTree}
use Rattle.c_layout.specs.ProperTypes.{IsProperType}
use Rattle.c_layout.specs.TypedNodes.{Scope}
use Rattle.c_typing.specs.World.{World}
use Rattle.c_typing.specs.Later.{IsLater}
use Rattle.c_typing.specs.Nodes.{result_of, params_of}
use Rattle.c_typing.proofs.Changes.{Changes}
use Rattle.c_typing.proofs.Good.{Good, is_later}
use Rattle.c_typing.proofs.Reaches.{Reaches, kept}
use Rattle.c_typing_laws.specs.NodeLaws.{IsCallable}
use Rattle.c_typing_laws.specs.ExpressionLaws.{EndsFrom}
use Rattle.c_typing_laws.proofs.WholeExpressions.{later_then}
use Rattle.c_typing_laws.proofs.Frames.{get_some}
use Rattle.c_typing_laws.proofs.Onward.{Onward, onward, last_then, ArePaired}

callable_then : (u v : World) (scope : Scope) (n : ℕ) → result_of u n ≡ result_of v n → params_of u n ≡ params_of v n → IsCallable v scope n → IsCallable u scope n
callable_then u v scope n r p is = record {
  function = is.function;
  there = is.there;
  result = r ∙ is.result;
  params = p ∙ is.params;
  result_proper = subst (IsProperType scope.program.structs) (sym r) is.result_proper;
  params_proper = subst (All (IsProperType scope.program.structs)) (sym p) is.params_proper;
}

callable_before : (u v : World) (scope : Scope) → ArePaired u → Onward u v → EndsFrom v scope → (n : ℕ) (f : TFunctionTree) → slice_get u.functions n ≡ Some f → IsCallable u scope n
callable_before u v scope pair on ends n f e =
    let g = on.functions n f e in
    let at = slice_get_within u.functions n f e in
    let types = get_some u.signatures n (omega (arith, at, pair)) in
    let after = on.signatures n types.0 types.1 in
    callable_then u v scope n
    (ap (λ o. unwrap_or (option_map (λ h. h.result) o) Void) e ∙ g.2.result ∙ ap (λ o. unwrap_or (option_map (λ h. h.result) o) Void) (sym g.1))
    (ap (λ o. unwrap_or o []) types.1 ∙ sym after.2 ∙ ap (λ o. unwrap_or o []) (sym after.1))
    (ends.functions n g.0 g.1)

-- the program at the end goes on from each world before
pub ends_onward : {may : Changes} (u v : World) (scope : Scope) → Good u → ArePaired u → Reaches may u v → EndsFrom v scope → EndsFrom u scope
ends_onward u v scope good pair r ends =
    let k = kept u v r good in
    let on = onward u v r in record {
      structs = later_then u v scope (is_later u v good k.good k.frame) ends.structs;
      table = ends.table;
      objects = λ n x e.
          let y = on.objects n x e in
          let last = ends.objects n y.0 y.1 in record {
            object = last.object;
            there = last.there;
            typed = last.typed;
            ty = last_then y.2.ty last.ty;
            read_only = last.read_only ∙ sym y.2.read_only;
            is_static = last.is_static ∙ sym y.2.is_static;
          };
      functions = λ n f e. callable_before u v scope pair on ends n f e;
    }

-- whatever lives
pub ends_live : (w : World) (scope : Scope) (live : List ℕ) → EndsFrom w scope → EndsFrom w (record { program = scope.program; live = live })
ends_live w scope live ends = record {
  structs = ends.structs;
  table = ends.table;
  objects = λ n x e.
      let last = ends.objects n x e in
      record { object = last.object; there = last.there; typed = last.typed; ty = last.ty; read_only = last.read_only; is_static = last.is_static };
  functions = λ n f e.
      let is = ends.functions n f e in
      record { function = is.function; there = is.there; result = is.result; params = is.params; result_proper = is.result_proper; params_proper = is.params_proper };
}

-- the same program in other scopes
pub ends_same : (v u : World) (scope : Scope) → v.structs ≡ u.structs → v.objects ≡ u.objects → v.functions ≡ u.functions → v.signatures ≡ u.signatures → EndsFrom v scope → EndsFrom u scope
ends_same v u scope s o f g ends = record {
  structs = subst (λ structs. IsLater structs scope.program.structs) s ends.structs;
  table = ends.table;
  objects = λ n x e. ends.objects n x (ap (λ l. slice_get l n) o ∙ e);
  functions = λ n h e.
      callable_then u v scope n (ap (λ l. unwrap_or (option_map (λ x. x.result) (slice_get l n)) Void) (sym f)) (ap (λ l. unwrap_or (slice_get l n) []) (sym g))
      (ends.functions n h (ap (λ l. slice_get l n) f ∙ e));
}

-- so it does where structs are the same
pub ends_still : (u v : World) (scope : Scope) → ArePaired u → v.structs ≡ u.structs → Onward u v → EndsFrom v scope → EndsFrom u scope
ends_still u v scope pair s on ends = record {
  structs = subst (λ structs. IsLater structs scope.program.structs) s ends.structs;
  table = ends.table;
  objects = λ n x e.
      let y = on.objects n x e in
      let last = ends.objects n y.0 y.1 in record {
        object = last.object;
        there = last.there;
        typed = last.typed;
        ty = last_then y.2.ty last.ty;
        read_only = last.read_only ∙ sym y.2.read_only;
        is_static = last.is_static ∙ sym y.2.is_static;
      };
  functions = λ n f e. callable_before u v scope pair on ends n f e;
}
