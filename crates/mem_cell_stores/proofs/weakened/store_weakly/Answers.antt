use Rattle.std.proofs.Common.{◌≡◌, ◌+◌, ◌-◌, ◌*◌, ◌∙◌, ap, refl, subst, sym}
use Rattle.std.proofs.lemmas.Result.{on_ok_weaker}
use Rattle.block_mem.specs.Bytes.{size_of}
use Rattle.machine_nums.specs.Machines.{Admits}
use Rattle.csharp.specs.Trees.{csexpr_tree}
use Rattle.mem_cell_bytes.specs.Stores.{IsChoice}
use Rattle.mem_cell_stores.specs.declared.weakly.Bytes.{Bytes}
use Rattle.mem_cell_stores.specs.Hits.{AreWeakened}
use Rattle.mem_cell_stores.proofs.Chosen.{weak-behind}
use Rattle.mem_cell_stores.proofs.weakened.store_weakly.Goals as goal

pub returns-in_default : goal.returns-in_default
returns-in_default g c =
    let ty = c.args.ty in let f = csexpr_tree c.args.value.now in
    record { types = c.forget_all.ensures.types; stands = on_ok_weaker c.forget_all.result (λ law e step leads. law ty e f) c.forget_all.ensures.stands }

pub returns-then-reach-eq0 : goal.returns-then-reach-eq0
returns-then-reach-eq0 g c =
    let ty = c.args.ty in let f = csexpr_tree c.args.value.now in
    record {
      types = c.forget_all-then-reach-eq0.ensures.types;
      stands = on_ok_weaker c.forget_all-then-reach-eq0.result (λ law e step leads. law ty e f) c.forget_all-then-reach-eq0.ensures.stands;
    }

pub returns : goal.returns
returns g c =
    let admits = g.D.Oracle.admits in let known = c.args.known.now in let reach = c.args.reach.now in let ty = c.args.ty in let f = csexpr_tree c.args.value.now in
    let count = c.in-Some.count in let grid = c.weaken_in.new.grid in let ys = c.in_ok-variables.variables.items in let content = c.in_ok-content.content in
    let b : Bytes = record { at = c.place_at.result; count = count; step = reach.step } in
    let count_is : count ≡ reach.end * reach.step - reach.first * reach.step - reach.step + size_of ty =
    c.in-Some.ensures ∙ ap (λ n. reach.end * reach.step - reach.first * reach.step - reach.step + n) c.scalar_size.ensures.value in
    let weak = subst (λ os. AreWeakened os b ty content ys known.grid grid) c.as_slice-objects.ensures.value c.in_ok-variables.ensures in
    record {
      types = refl;
      stands = on_ok_weaker c.weaken_each.result (λ law e step leads.
          weak-behind admits known ty e f (Admits admits c.weaken_each.new.nums) grid reach b content c.in_ok-range.range ys leads step refl c.place_at.ensures count_is
          c.in_ok-content.ensures c.in_ok-range.ensures weak
          (λ v w n a inside choice. law v w n a inside (subst (λ xs. IsChoice xs n v w) (sym c.as_slice.ensures.value) choice))) c.weaken_each.ensures;
    }
