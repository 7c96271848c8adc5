use Rattle.std.proofs.Common.{rules, ◌≡◌, subst, sym}
use Rattle.std.specs.Prelude.{IsTrue}
use Rattle.c_syntax.specs.declared.alarm.Shown.{Shown}
use Rattle.c_syntax.specs.declared.alarm.Shown.TheVariants as shows
use Rattle.c_syntax.specs.Operand.{Operand, Number}
use Rattle.c_syntax.specs.Admission.{IsBetween, IsInClass, IsInShown}
use Rattle.csharp_state.specs.Answers.{operand_of}
use Rattle.mem_intervals.proofs.membership.is_shown.Goals as goal

pub returns-in-Number-operand : goal.returns-in-Number-operand
returns-in-Number-operand c =
    let n = c.in-Number-operand.n in
    let lo = c.in-Number.lo in let hi = c.in-Number.hi in let modulus = c.in-Number.modulus in let rem = c.in-Number.rem in
    let shown : c.args.shown.now ≡ shows.Number lo hi modulus rem = search rules in
    let operand : operand_of c.args.operand ≡ Number n = search rules in
    let there : IsTrue c.has_number.result → IsBetween lo hi n × IsInClass modulus rem n = search rules in
    let back : IsBetween lo hi n × IsInClass modulus rem n → IsTrue c.has_number.result = search (rules, c.has_number.ensures.1) in
    λ objects count. (
      λ t. let k = there t in
          subst (λ (w : Shown). IsInShown objects (operand_of c.args.operand) w) (sym shown)
          (subst (λ (x : Operand). IsInShown objects x (shows.Number lo hi modulus rem)) (sym operand) (k.0, k.1)),
      λ h. let k : IsInShown objects (Number n) (shows.Number lo hi modulus rem) = subst (λ (x : Operand). IsInShown objects x (shows.Number lo hi modulus rem)) operand
          (subst (λ (w : Shown). IsInShown objects (operand_of c.args.operand) w) shown h) in back (k.0, k.1),
    )
