use Rattle.std.proofs.Common.{◌≡◌, ◌+◌, ◌≤◌, length, insert, rules, arith, ap, ◌∙◌, subst, List, ℕ}
use Rattle.std.proofs.lemmas.List.Edits.{length-insert}
use Rattle.pointsets.specs.Targets.{names_of, put}
use Rattle.pointsets.proofs.Names.{rises, rises-put, increases}
use Rattle.pointsets.proofs.Targets.put_at.Goals as goal

pub invariant_of-self : goal.invariant_of-self
invariant_of-self c =
    let names = c.self.inside.names.items in
    let set_is : names_of c.args.self.now ≡ names = search rules in
    let room : length names + 1 ≤ c.self.inside.names.capacity = omega (arith, c.self.invariant.few, c.self.invariant.in_place, c.if-len-eq-ROOM.false, c.len.ensures.value) in
    let items : c.insert-room_was_there.new.self.items ≡ insert names c.args.at c.args.n = search rules in
    let within : c.args.at ≤ length names = omega (arith, c.requires.place, ap (λ (xs : List ℕ). length xs) set_is) in
    let is_put : put names c.args.n ≡ insert names c.args.at c.args.n = subst (λ (xs : List ℕ). put xs c.args.n ≡ insert xs c.args.at c.args.n) set_is c.requires.is_place in
    record {
      in_place = c.insert-room_was_there.ensures.had_room room ∙ c.self.invariant.in_place;
      few = rw items (omega (arith, length-insert names c.args.at c.args.n within, room, c.self.invariant.in_place));
      rising = rw (items, ← is_put) (increases _ (rises-put c.args.n names (rises names c.self.invariant.rising)));
      none = search rules;
    }
