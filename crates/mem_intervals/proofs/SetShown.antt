-- What is shown of the states of a set, and of what its one state looks at.
use Rattle.std.proofs.Common.{◌≡◌, ℕ, false, sym, subst, ap, ◌∙◌, List, length, Option, Some, None}
use Rattle.std.specs.Prelude.{IfSome, IsSomeAnd, map}
use Rattle.std.proofs.lemmas.List.{length-map}
use Rattle.c_syntax.specs.declared.alarm.Shown.{Shown}
use Rattle.c_syntax.specs.Types.{ObjectTree}
use Rattle.c_syntax.specs.Operand.{Operand}
use Rattle.c_syntax.specs.Admission.{Fails, IsInShown}
use Rattle.block_mem.specs.declared.types.Scalar.{Scalar}
use Rattle.num_api.specs.declared.message.Range.{Range}
use Rattle.csharp.specs.Trees.{CsProgramTree, CsCheckTree, Checked}
use Rattle.csharp.specs.States.{State}
use Rattle.csharp_state.specs.declared.sight.Operand.{Operand as Found}
use Rattle.csharp_state.specs.Answers.{operand_of}
use Rattle.mem_api.specs.Given.{IsOf}
use Rattle.mem_api.specs.Showing.{looked_at}
use Rattle.plain_runs.specs.States.{Plain}
use Rattle.plain_runs.specs.Checks.{plain_suspect}
use Rattle.mem_temps.specs.Sets.{Stands}
use Rattle.mem_objects.specs.declared.cells.KnownCell.{KnownCell}
use Rattle.mem_objects.specs.Known.{AreHeld}
use Rattle.mem_intervals.specs.Passed.{Remembered}
use Rattle.mem_intervals.specs.Sets.{IsIn, IsUnder}

module _ (c : CsCheckTree) (w : Shown) (os : List ObjectTree) (ts : List Scalar) (rs : List Range) (passed : Option Remembered) (cells : List (Option KnownCell))
    (copies : List (Option ℕ)) where
  -- of a state in the set the operand is shown
  pub wide_holds : (one : Option State) → ((q : CsProgramTree) (types : List Scalar) (s : State) (x : Operand) → Stands (length q.objects) types rs s
      → AreHeld q.objects cells s.memory → looked_at c s ≡ Some x → IsInShown q.objects x w)
      → (q : CsProgramTree) (s : State) (x : Operand) → os ≡ q.objects → IsIn os ts rs passed cells copies one s → looked_at c s ≡ Some x → IsInShown q.objects x w
  wide_holds one h q s x same k look = h q ts s x (subst (λ (o : List ObjectTree). Stands (length o) ts rs s) same k.temps)
      (subst (λ (o : List ObjectTree). AreHeld o cells s.memory) same k.known.cells_held) look

  -- under a plain state without a suspect none is shown that fails
  pub wide_safe : ((q : CsProgramTree) (passed : Option Remembered) (copies : List (Option ℕ)) (p : Plain) (x : Operand) → IsOf q (Checked c)
      → IsUnder q.objects q.temps rs passed cells copies p → plain_suspect q.temps p c ≡ Some false → IsInShown q.objects x w → Fails q.objects c.check x → ⊥)
      → (q : CsProgramTree) → os ≡ q.objects → q.temps ≡ ts → IsOf q (Checked c)
      → (r : CsProgramTree) → os ≡ r.objects → r.temps ≡ ts → (p : Plain) → IsUnder os ts rs passed cells copies p → plain_suspect r.temps p c ≡ Some false
      → (x : Operand) → IsInShown r.objects x w → Fails r.objects c.check x → ⊥
  wide_safe h q same types given r alike typed p under g x there bad = h q passed copies p x given
      (subst (λ (o : List ObjectTree). IsUnder o q.temps rs passed cells copies p) same
      (subst (λ (t : List Scalar). IsUnder os t rs passed cells copies p) (sym types) under))
      (subst (λ (t : List Scalar). plain_suspect t p c ≡ Some false) (typed ∙ sym types) g)
      (subst (λ (o : List ObjectTree). IsInShown o x w) (sym alike ∙ same) there)
      (subst (λ (o : List ObjectTree). Fails o c.check x) (sym alike ∙ same) bad)

-- what is found in the one state is what is looked at
pub found_is : (o : Option Found) (y : Found) (x : Operand) → o ≡ Some y → IfSome o (λ z. operand_of z ≡ x) → operand_of y ≡ x
found_is o y x is h = subst (λ (o : Option Found). IfSome o (λ z. operand_of z ≡ x)) is h

pub never_none : (o : Option Found) (x : Operand) → o ≡ None → IsSomeAnd o (λ z. operand_of z ≡ x) → ⊥
never_none o x is h = subst (λ (o : Option Found). IsSomeAnd o (λ z. operand_of z ≡ x)) is h

pub counted : {A B : Type 0} (f : A → B) (xs ys : List A) (zs : List B) → map f xs ≡ zs → ys ≡ xs → length zs ≡ length ys
counted f xs ys zs same slice = ap length (sym same) ∙ length-map xs f ∙ ap length (sym slice)
