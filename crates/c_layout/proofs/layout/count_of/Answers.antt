use Rattle.std.proofs.Common.{◌≡◌, refl, sym, ap, ◌∙◌, ◌*◌, arith, rules}
use Rattle.c_syntax.specs.Types.{ctype_tree, Array}
use Rattle.c_syntax.proofs.TypeTrees.{ctype_array}
use Rattle.c_layout.specs.Kept.{kept, element_count}
use Rattle.c_layout.proofs.Keeping.{kept_twice}
use Rattle.c_layout.proofs.Chains.{kept_step, no_array-count}
use Rattle.c_layout.proofs.layout.count_of.Goals as goal

pub loop-ty-preserved : goal.loop-ty-preserved
loop-ty-preserved c =
    let here : ctype_tree c.loop-ty.ty.now ≡ Array (ctype_tree c.deref.result.now.ty) c.in-Array.of.value.is_const c.in-Array.n = search (rules, ctype_array) in
    let product : c.product-count.result ≡ kept (c.loop-ty.count * c.in-Array.n) = c.product-count.ensures c.loop-ty.count c.in-Array.n refl refl in (
      kept_step _ c.loop-ty.count c.in-Array.n _ product
          ∙ ap (λ t. kept (c.loop-ty.count * element_count t)) (sym here)
          ∙ c.loop-ty.invariant.0,
      ap kept product ∙ kept_twice _ ∙ sym product,
    )

pub returns : goal.returns
returns c =
    sym c.loop-ty.invariant.1
    ∙ ap kept (omega arith ∙ ap (λ n. c.loop-ty.count * n) (sym (no_array-count _ c.in_default.not-Array)))
    ∙ c.loop-ty.invariant.0
