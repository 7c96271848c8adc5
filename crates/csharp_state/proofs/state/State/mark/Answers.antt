use Rattle.std.proofs.Common.{◌≡◌, sym, true, ap, rules}
use Rattle.block_mem.specs.declared.types.Value.TheVariants as values
use Rattle.csharp.specs.States.{State}
use Rattle.csharp_state.specs.Reading.{can_read}
use Rattle.csharp_state.proofs.Standing.{value_mark, undef_mark, broken_mark, some_mark}
use Rattle.csharp_state.proofs.state.State.mark.Goals as goal

pub returns-in-Ok-clause-is : goal.returns-in-Ok-clause-is
returns-in-Ok-clause-is c =
    let at : c.args.self.now.memory ≡ c.self.inside.memory = sym (ap (λ (s : State). s.memory) c.self.view_is) in
    let read : can_read c.args.self.now.memory (values.Ptr c.args.at) c.size_of.result c.size_of.result ≡ true = search rules in
    value_mark c.args.self.now.memory c.self.inside.memory c.args.at c.args.ty c.size_of.result at c.requires c.size_of.ensures read _ c.in-Ok.ensures.answer

pub returns-in-Indeterminate-clause-is : goal.returns-in-Indeterminate-clause-is
returns-in-Indeterminate-clause-is c =
    let at : c.args.self.now.memory ≡ c.self.inside.memory = sym (ap (λ (s : State). s.memory) c.self.view_is) in
    let read : can_read c.args.self.now.memory (values.Ptr c.args.at) c.size_of.result c.size_of.result ≡ true = search rules in
    undef_mark c.args.self.now.memory c.self.inside.memory c.args.at c.args.ty c.size_of.result at c.requires c.size_of.ensures read _ _ c.in-Indeterminate.is
    c.in-Err.ensures.answer

pub returns-in-Fragment-clause-is : goal.returns-in-Fragment-clause-is
returns-in-Fragment-clause-is c =
    let at : c.args.self.now.memory ≡ c.self.inside.memory = sym (ap (λ (s : State). s.memory) c.self.view_is) in
    let read : can_read c.args.self.now.memory (values.Ptr c.args.at) c.size_of.result c.size_of.result ≡ true = search rules in
    broken_mark c.args.self.now.memory c.self.inside.memory c.args.at c.args.ty c.size_of.result at c.requires c.size_of.ensures read _ _ c.in-Fragment.is
    c.in-Err.ensures.answer

pub unreachable-requires : goal.unreachable-requires
unreachable-requires c =
    let at : c.args.self.now.memory ≡ c.self.inside.memory = sym (ap (λ (s : State). s.memory) c.self.view_is) in
    let read : can_read c.args.self.now.memory (values.Ptr c.args.at) c.size_of.result c.size_of.result ≡ true = search rules in
    some_mark c.args.self.now.memory c.self.inside.memory c.args.at c.args.ty c.size_of.result at c.requires c.size_of.ensures read _ _
    c.in_default.not-Indeterminate c.in_default.not-Fragment c.in-Err.ensures.answer
