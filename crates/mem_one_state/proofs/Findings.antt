-- What is found of a check in the one state is found in each that has its temporaries and its memory.
use mathlib.Core.Bool.{beq}
use Rattle.std.proofs.Common.{◌≡◌, Bool, true, false, refl, subst, ap, ◌∙◌, List, [], ◌∷◌, Option, Some, None}
use Rattle.std.specs.Prelude.{option_map, IfSome, IsTrue}
use Rattle.c_syntax.specs.declared.alarm.WrongKind.{WrongKind}
use Rattle.c_syntax.specs.Operand as pure
use Rattle.c_syntax.specs.Types.{ObjectTree}
use Rattle.block_mem.specs.declared.types.Value.{Value}
use Rattle.c_values.specs.Values.{truth}
use Rattle.c_values.specs.Looks.{Judged, judge, Passes, FailsAs}
use Rattle.csharp.specs.Trees.{CsCheckTree}
use Rattle.csharp.specs.States.{State, look_of}
use Rattle.csharp_state.specs.Answers.{operand_of}
use Rattle.csharp_state.specs.declared.sight.Operand.{Operand}
use Rattle.mem_api.specs.Showing.{looked_at}
use Rattle.mem_one_state.specs.One.{IsOf}
use Rattle.mem_one_state.proofs.Inputs.{operand_same, judge_same}

found_is : (o : Option Operand) (x : pure.Operand) → option_map operand_of o ≡ Some x → IfSome o (λ y. operand_of y ≡ x)
found_is None x h = tt
found_is (Some y) x h = cc

pub stands_found : (c : CsCheckTree) (old : Option State) (t : State) (o : Option Operand) → old ≡ Some t → option_map operand_of o ≡ looked_at c t
    → (s : State) (x : pure.Operand) → IsOf old s → looked_at c s ≡ Some x → IfSome o (λ y. operand_of y ≡ x)
stands_found c old t o e is s x h g =
    found_is o x (is ∙ operand_same c.check.kind c.ty c.operands t s (subst (λ p. IsOf p s) e h) ∙ g)

fails_not : (j : Judged) (k : WrongKind) (x : pure.Operand) → FailsAs k x ≡ j → j ≡ Passes → ⊥
fails_not j k x e f = let same : FailsAs k x ≡ Passes = e ∙ f in absurd (cc)

pub passes_not : (objects : List ObjectTree) (c : CsCheckTree) (old : Option State) (t : State) (k : WrongKind) (x : pure.Operand) → old ≡ Some t
    → FailsAs k x ≡ judge objects (look_of c t ∷ []) → (s : State) → IsOf old s → judge objects (look_of c s ∷ []) ≡ Passes → ⊥
passes_not objects c old t k x e is s h g =
    fails_not (judge objects (look_of c s ∷ [])) k x (is ∙ judge_same objects c t s (subst (λ p. IsOf p s) e h)) g

same_truth : (b : Bool) → beq b b ≡ true
same_truth true = refl
same_truth false = refl

some_same : (w v : Value) → Some w ≡ Some v → w ≡ v
some_same w v h = cc

-- a test that was made on the value in the one state, for a state that has the same value
pub truth_kept : (live test wanted : Bool) (w v : Value) → live ≡ beq test wanted → test ≡ truth w → Some w ≡ Some v → truth v ≡ wanted → IsTrue live
truth_kept live test wanted w v made is same e =
    made ∙ ap (λ (b : Bool). beq b wanted) (is ∙ ap truth (some_same w v same) ∙ e) ∙ same_truth wanted
