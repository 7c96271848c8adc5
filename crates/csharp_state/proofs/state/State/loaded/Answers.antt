use Rattle.std.proofs.Common.{◌≡◌, sym, ◌<◌, length, ap, arith}
use Rattle.csharp.specs.States.{State}
use Rattle.csharp_state.proofs.Standing.{value_at, nothing_at}
use Rattle.csharp_state.proofs.state.State.loaded.Goals as goal

pub returns-in-Ok : goal.returns-in-Ok
returns-in-Ok c =
    let at : c.args.self.now.memory ≡ c.self.inside.memory = sym (ap (λ (s : State). s.memory) c.self.view_is) in
    let made : c.in-Ptr.at.block < length c.self.inside.memory.blocks = omega (arith, c.count.ensures) in
    value_at c.args.self.now.memory c.self.inside.memory c.args.place c.in-Ptr.at at c.in-Ptr.is c.requires c.args.ty c.in-Ok.v made c.in-Ok.ensures.answer

pub returns-in-Err : goal.returns-in-Err
returns-in-Err c =
    let at : c.args.self.now.memory ≡ c.self.inside.memory = sym (ap (λ (s : State). s.memory) c.self.view_is) in
    let made : c.in-Ptr.at.block < length c.self.inside.memory.blocks = omega (arith, c.count.ensures) in
    nothing_at c.args.self.now.memory c.self.inside.memory c.args.place c.in-Ptr.at at c.in-Ptr.is c.requires c.args.ty _ _ made c.in-Err.ensures.answer
