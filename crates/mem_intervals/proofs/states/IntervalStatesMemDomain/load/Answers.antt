use Rattle.std.proofs.Common.{map, refl, sym, subst, ◌≡◌, ◌∙◌, ap, Option, Some, None}
use Rattle.c_syntax.specs.Types.{object_tree}
use Rattle.csharp.specs.Trees.{csexpr_tree}
use Rattle.mem_intervals.specs.declared.states.IntervalStates.{IntervalStates}
use Rattle.mem_intervals.specs.Sets.{IsUnder}
use Rattle.mem_intervals.proofs.UnderSteps.{always, renamed, load_leaves, no_load}
use Rattle.mem_intervals.proofs.states.IntervalStatesMemDomain.load.Goals.{in-Some, in-None}
use Rattle.std.specs.Prelude.{slice_set}
use Rattle.std.proofs.lemmas.Result.{on_ok_weaker}
use Rattle.num_api.specs.Ranges.{all_numbers}
use Rattle.csharp.specs.States.{State}
use Rattle.mem_one_state.specs.One.{IsOf}
use Rattle.mem_one_state.proofs.Moves.{loads_inputs}
use Rattle.mem_intervals.proofs.InSteps.{IsInSet, itself, like, load_in, load_cell_in}
use Rattle.mem_intervals.proofs.states.IntervalStatesMemDomain.load.Goals as goal
use Rattle.csharp.specs.Actions as acts

pub returns-clause-plain : goal.returns-clause-plain
returns-clause-plain c = always c.load.result (λ p r h g. elim c.match-accessed.branch [
  | in-Some w ↦ subst (λ (m : IntervalStates). IsUnder (map object_tree m.objects) m.temps.types m.temps.ranges m.temps.passed m.cells m.copies r) (sym w.self-is)
      (renamed (map object_tree c.args.self.now.objects) c.args.self.now.temps.types w.put.new.self.types w.put.new.self.ranges w.put.new.self.ranges
      w.put.new.self.passed c.args.self.now.cells w.put-in-Some.new.self r w.put.ensures.types refl
      (load_leaves c.requires.0 (map object_tree c.args.self.now.objects) c.args.self.now.temps.types c.args.self.now.temps.ranges w.put.new.self.ranges
      c.args.self.now.temps.passed w.put.new.self.passed c.args.self.now.cells c.args.self.now.copies w.put-in-Some.new.self c.args.temp c.args.ty
      (csexpr_tree c.args.address.now) c.accessed.result w.in-Some.known c.requires.1.1 c.requires.2 c.accessed.ensures w.in-Some.is w.put.ensures.ranges
      w.put-in-Some.ensures p r h g))
  | in-None w ↦ absurd (no_load c.requires.0 (map object_tree c.args.self.now.objects) c.args.self.now.temps.types c.args.self.now.temps.ranges
      c.args.self.now.temps.passed c.args.self.now.cells c.args.self.now.copies c.args.temp c.args.ty (csexpr_tree c.args.address.now) c.accessed.result
      c.requires.1.1 c.requires.2 c.accessed.ensures w.in-None.is p r h g)
])

-- the one state is still that of the set
kept : (c : goal.After-load) → c.match-accessed.self.one ≡ c.args.self.now.one
kept c = elim c.match-accessed.branch [
  | in-Some w ↦ ap (λ (y : IntervalStates). y.one) w.self-is
  | in-None w ↦ ap (λ (y : IntervalStates). y.one) w.self-is
]

behind : (c : goal.After-load) (s t : State) → IsInSet c.args.self.now c.args.self.now.one s
    → acts.load c.args.temp c.args.ty (csexpr_tree c.args.address.now) s ≡ Some t → IsOf c.load.new.self t → IsInSet c.match-accessed.self c.load.new.self t
behind c s t h g is =
    let m = c.args.self.now in
    let os = map object_tree m.objects in
    let e = csexpr_tree c.args.address.now in
    let one = c.load.new.self in
    elim c.match-accessed.branch [
      | in-Some w ↦
          let k = w.in-Some.known in
          subst (λ (y : IntervalStates). IsInSet y one t) (sym w.self-is)
          (like os m.temps.types w.put.new.self.types (slice_set m.temps.ranges c.args.temp k.cell.range) w.put.new.self.ranges None w.put.new.self.passed
          m.cells m.cells (slice_set m.copies c.args.temp (Some k.number)) w.put-in-Some.new.self one one t w.put.ensures.types w.put.ensures.ranges
          w.put.ensures.passed refl w.put-in-Some.ensures refl
          (load_cell_in os m.temps.types m.temps.ranges m.temps.passed m.cells m.copies m.one one c.requires.0 c.args.temp c.args.ty e k.number k.cell
          c.requires.1.1 c.requires.2 (c.accessed.ensures.address k w.in-Some.is) (c.accessed.ensures.cell k w.in-Some.is)
          (c.accessed.ensures.own k w.in-Some.is) s t h g is))
      | in-None w ↦
          subst (λ (y : IntervalStates). IsInSet y one t) (sym w.self-is)
          (like os m.temps.types w.put-in-None.new.self.types (slice_set m.temps.ranges c.args.temp all_numbers) w.put-in-None.new.self.ranges None
          w.put-in-None.new.self.passed m.cells m.cells (slice_set m.copies c.args.temp None) w.put-in-None-2.new.self one one t w.put-in-None.ensures.types
          (w.put-in-None.ensures.ranges ∙ ap (slice_set m.temps.ranges c.args.temp) w.all.ensures) w.put-in-None.ensures.passed refl w.put-in-None-2.ensures
          refl
          (load_in os m.temps.types m.temps.ranges m.temps.passed m.cells m.copies m.one one c.requires.0 c.args.temp c.args.ty e c.requires.1.1 c.requires.2
          s t h g is))
    ]

pub returns-clause-stands : goal.returns-clause-stands
returns-clause-stands c =
    let x = c.match-accessed.self in
    let e = csexpr_tree c.args.address.now in
    on_ok_weaker c.load.result
    (λ (stands : (s t : State) → IsOf x.one s → acts.load c.args.temp c.args.ty e s ≡ Some t → IsOf c.load.new.self t) s t h g.
    behind c s t h g (stands s t (subst (λ (o : Option State). IsOf o s) (sym (kept c)) h.same) g)) c.load.ensures.stands

pub returns-clause-sharp : goal.returns-clause-sharp
returns-clause-sharp c =
    let x = c.match-accessed.self in
    let e = csexpr_tree c.args.address.now in
    on_ok_weaker c.load.result
    (λ (sharp : (s t : State) → x.one ≡ Some s → acts.load c.args.temp c.args.ty e s ≡ Some t → c.load.new.self ≡ Some t) s t h g.
    let one = sharp s t (kept c ∙ h.0) g in
    (one, loads_inputs c.args.temp c.args.ty e s t g ∙ h.1, behind c s t h.2 g (itself c.load.new.self t one))) c.load.ensures.sharp
