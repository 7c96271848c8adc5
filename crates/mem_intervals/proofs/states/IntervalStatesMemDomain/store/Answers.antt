use Rattle.std.proofs.Common.{◌≡◌, ◌∙◌, List, Some, map, sym, subst, ap, refl, Bool, length, replicate, Option, None}
use Rattle.c_syntax.specs.Types.{object_tree}
use Rattle.block_mem.specs.declared.types.Scalar.{Scalar}
use Rattle.csharp.specs.Trees.{csexpr_tree}
use Rattle.plain_runs.specs.Changes.{plain_store}
use Rattle.mem_objects.specs.Copies.{without}
use Rattle.mem_intervals.specs.declared.states.IntervalStates.{IntervalStates}
use Rattle.mem_intervals.specs.Sets.{IsUnder, IsIn}
use Rattle.mem_intervals.proofs.UnderSteps.{always, renamed, store_leaves, store_lies, no_store}
use Rattle.mem_intervals.proofs.states.IntervalStatesMemDomain.store.Goals.{in-Some, then-lies_in, else-lies_in, in-None}
use Rattle.std.specs.Prelude.{MatchBool, slice_set}
use Rattle.std.proofs.lemmas.Result.{on_ok_weaker}
use Rattle.mem_temps.specs.Operators.{LiesIn}
use Rattle.csharp.specs.States.{State}
use Rattle.mem_objects.specs.Cells.{stored_cell}
use Rattle.mem_one_state.specs.One.{IsOf}
use Rattle.mem_one_state.proofs.Moves.{stores_inputs}
use Rattle.mem_intervals.proofs.InSteps.{IsInSet, itself, like, store_in, store_cell_in, store_hidden_in}
use Rattle.mem_intervals.proofs.states.IntervalStatesMemDomain.store.Goals as goal
use Rattle.csharp.specs.Actions as acts

pub returns-clause-plain : goal.returns-clause-plain
returns-clause-plain c = always c.store.result (λ q p r same h run.
    let g = subst (λ (ts : List Scalar). plain_store ts p c.args.ty (csexpr_tree c.args.address.now) (csexpr_tree c.args.value.now) ≡ Some r) same.1 run in
    elim c.match-accessed.branch [
      | in-Some w ↦ elim w.if-lies_in.branch [
        | then-lies_in v ↦
            subst (λ (m : IntervalStates). IsUnder (map object_tree m.objects) m.temps.types m.temps.ranges m.temps.passed m.cells m.copies r) (sym w.self-is)
            (subst (λ (m : IntervalStates). IsUnder (map object_tree m.objects) m.temps.types m.temps.ranges m.temps.passed m.cells w.forget_object.new.self r)
            (sym v.self-is)
            (renamed (map object_tree c.args.self.now.objects) c.args.self.now.temps.types c.pass_on.new.self.types c.args.self.now.temps.ranges
            c.pass_on.new.self.ranges c.pass_on.new.self.passed v.put.new.self w.forget_object.new.self r c.pass_on.ensures.kept.0 c.pass_on.ensures.kept.1
            (store_leaves c.requires.0 (map object_tree c.args.self.now.objects) c.args.self.now.temps.types c.args.self.now.temps.ranges
            c.args.self.now.temps.passed c.pass_on.new.self.passed c.args.self.now.cells v.put.new.self c.args.self.now.copies w.forget_object.new.self
            c.args.ty (csexpr_tree c.args.address.now) (csexpr_tree c.args.value.now) c.value_range-range.result c.accessed.result w.in-Some.known
            c.requires.1.1 c.requires.2 c.value_range-range.ensures c.accessed.ensures w.in-Some.is v.put.ensures
            (w.forget_object.ensures ∙ ap (λ (m : IntervalStates). without w.in-Some.known.number m.copies) v.self-is) p r h g)))
        | else-lies_in v ↦ absurd (v.if-lies_in.ensures (store_lies c.requires.0 (map object_tree c.args.self.now.objects) c.args.self.now.temps.types
            c.args.self.now.temps.ranges c.args.self.now.temps.passed c.args.self.now.cells c.args.self.now.copies c.args.ty (csexpr_tree c.args.address.now)
            (csexpr_tree c.args.value.now) c.value_range-range.result c.accessed.result w.in-Some.known c.requires.1.1 c.requires.2
            c.value_range-range.ensures c.accessed.ensures w.in-Some.is p h))
      ]
      | in-None w ↦ absurd (no_store (map object_tree c.args.self.now.objects) c.args.self.now.temps.types c.args.self.now.temps.ranges
          c.args.self.now.temps.passed c.args.self.now.cells c.args.self.now.copies c.args.ty (csexpr_tree c.args.address.now) (csexpr_tree c.args.value.now)
          c.accessed.result c.accessed.ensures w.in-None.is p r h g)
    ])

-- the one state is still that of the set
kept : (c : goal.After-store) → c.match-accessed.self.one ≡ c.args.self.now.one
kept c = elim c.match-accessed.branch [
  | in-Some w ↦ ap (λ (y : IntervalStates). y.one) w.self-is ∙ (elim w.if-lies_in.branch [
    | then-lies_in v ↦ ap (λ (y : IntervalStates). y.one) v.self-is
    | else-lies_in v ↦ ap (λ (y : IntervalStates). y.one) v.self-is
  ])
  | in-None w ↦ ap (λ (y : IntervalStates). y.one) w.self-is
]

behind : (c : goal.After-store) (s t : State) → IsInSet c.args.self.now c.args.self.now.one s
    → acts.store c.args.ty (csexpr_tree c.args.address.now) (csexpr_tree c.args.value.now) s ≡ Some t → IsOf c.store.new.self t
    → IsInSet c.match-accessed.self c.store.new.self t
behind c s t h g is =
    let m = c.args.self.now in
    let os = map object_tree m.objects in
    let ts = c.pass_on.new.self in
    let e = csexpr_tree c.args.address.now in
    let f = csexpr_tree c.args.value.now in
    let r = c.value_range-range.result in
    let one = c.store.new.self in
    elim c.match-accessed.branch [
      | in-Some w ↦
          let k = w.in-Some.known in
          let left = w.forget_object.new.self in
          subst (λ (y : IntervalStates). IsInSet y one t) (sym w.self-is) (elim w.if-lies_in.branch [
            | then-lies_in v ↦
                let fits = subst (λ (b : Bool). MatchBool b (LiesIn k.cell.ty r) (LiesIn k.cell.ty r → ⊥)) v.if-lies_in.true w.lies_in.ensures in
                subst (λ (y : IntervalStates). IsIn (map object_tree y.objects) y.temps.types y.temps.ranges y.temps.passed y.cells left one t) (sym v.self-is)
                (like os m.temps.types ts.types m.temps.ranges ts.ranges None ts.passed (slice_set m.cells k.number (Some (stored_cell r k.cell)))
                v.put.new.self (without k.number m.copies) left one one t c.pass_on.ensures.kept.0 c.pass_on.ensures.kept.1 c.pass_on.ensures.passed
                v.put.ensures (w.forget_object.ensures ∙ ap (λ (y : IntervalStates). without k.number y.copies) v.self-is) refl
                (store_cell_in os m.temps.types m.temps.ranges m.temps.passed m.cells m.copies m.one one c.requires.0 c.args.ty e f k.number k.cell r
                c.requires.1.1 c.requires.2 (c.accessed.ensures.address k w.in-Some.is) (c.accessed.ensures.cell k w.in-Some.is)
                (c.accessed.ensures.own k w.in-Some.is) c.value_range-range.ensures fits s t h g is))
            | else-lies_in v ↦
                subst (λ (y : IntervalStates). IsIn (map object_tree y.objects) y.temps.types y.temps.ranges y.temps.passed y.cells left one t) (sym v.self-is)
                (like os m.temps.types ts.types m.temps.ranges ts.ranges None ts.passed (slice_set m.cells k.number None) v.hide.new.self
                (without k.number m.copies) left one one t c.pass_on.ensures.kept.0 c.pass_on.ensures.kept.1 c.pass_on.ensures.passed v.hide.ensures
                (w.forget_object.ensures ∙ ap (λ (y : IntervalStates). without k.number y.copies) v.self-is) refl
                (store_hidden_in os m.temps.types m.temps.ranges m.temps.passed m.cells m.copies m.one one c.args.ty e f k.number
                (c.accessed.ensures.address k w.in-Some.is) s t h g is))
          ])
      | in-None w ↦
          subst (λ (y : IntervalStates). IsInSet y one t) (sym w.self-is)
          (like os m.temps.types ts.types m.temps.ranges ts.ranges None ts.passed (replicate (length m.cells) None) w.forget.new.self
          (replicate (length m.copies) None) w.forget-in-None.new.self one one t c.pass_on.ensures.kept.0 c.pass_on.ensures.kept.1 c.pass_on.ensures.passed
          w.forget.ensures w.forget-in-None.ensures refl
          (store_in os m.temps.types m.temps.ranges m.temps.passed m.cells m.copies m.one one c.args.ty e f (length m.cells) (length m.copies) s t h g is))
    ]

pub returns-clause-stands : goal.returns-clause-stands
returns-clause-stands c =
    let x = c.match-accessed.self in
    let e = csexpr_tree c.args.address.now in
    let f = csexpr_tree c.args.value.now in
    on_ok_weaker c.store.result
    (λ (stands : (s t : State) → IsOf x.one s → acts.store c.args.ty e f s ≡ Some t → IsOf c.store.new.self t) s t h g.
    behind c s t h g (stands s t (subst (λ (o : Option State). IsOf o s) (sym (kept c)) h.same) g)) c.store.ensures.stands

pub returns-clause-sharp : goal.returns-clause-sharp
returns-clause-sharp c =
    let x = c.match-accessed.self in
    let e = csexpr_tree c.args.address.now in
    let f = csexpr_tree c.args.value.now in
    on_ok_weaker c.store.result
    (λ (sharp : (s t : State) → x.one ≡ Some s → acts.store c.args.ty e f s ≡ Some t → c.store.new.self ≡ Some t) s t h g.
    let one = sharp s t (kept c ∙ h.0) g in
    (one, stores_inputs c.args.ty e f s t g ∙ h.1, behind c s t h.2 g (itself c.store.new.self t one))) c.store.ensures.sharp
