use Rattle.std.proofs.Common.{◌≡◌, sym, ◌<◌, length, ap, arith}
use Rattle.csharp.specs.States.{State}
use Rattle.csharp_state.proofs.Standing.{readable_at, unreadable_at}
use Rattle.csharp_state.proofs.state.State.is_readable.Goals as goal

pub returns-in-Ok : goal.returns-in-Ok
returns-in-Ok c =
    let at : c.args.self.now.memory ≡ c.self.inside.memory = sym (ap (λ (s : State). s.memory) c.self.view_is) in
    let made : c.in-Ptr.at.block < length c.self.inside.memory.blocks = omega (arith, c.count.ensures) in
    readable_at c.args.self.now.memory c.self.inside.memory c.args.place c.in-Ptr.at at c.in-Ptr.is c.requires c.args.size c.args.align made c.in-Ok.ensures

pub returns-in-Err : goal.returns-in-Err
returns-in-Err c =
    let at : c.args.self.now.memory ≡ c.self.inside.memory = sym (ap (λ (s : State). s.memory) c.self.view_is) in
    let made : c.in-Ptr.at.block < length c.self.inside.memory.blocks = omega (arith, c.count.ensures) in
    unreadable_at c.args.self.now.memory c.self.inside.memory c.args.place c.in-Ptr.at at c.in-Ptr.is c.requires c.args.size c.args.align _ _ made c.in-Err.ensures
