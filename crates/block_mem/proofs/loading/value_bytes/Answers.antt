use Rattle.std.proofs.Common.{◌∙◌, ap, sym, subst, take, List, rules, FitsSigned}
use Rattle.std.specs.Int.{w128}
use Rattle.std.proofs.lemmas.Int.{to_z-of_z}
use Rattle.block_mem.specs.declared.types.Byte.{Byte}
use Rattle.block_mem.specs.declared.types.Value.{Value}
use Rattle.block_mem.specs.declared.types.Value.TheVariants as values
use Rattle.block_mem.specs.Numbers.{bits_in, low_bytes}
use Rattle.block_mem.specs.Bytes.{size_of, IsOf, bytes_of}
use Rattle.block_mem.proofs.Values.{int_bytes}
use Rattle.block_mem.proofs.loading.value_bytes.Goals as goal

pub returns-in-Int : goal.returns-in-Int
returns-in-Int c =
    let n = c.in-Int.number in
    let of : IsOf c.args.ty (values.Int c.in-Int.ty n) = subst (λ (v : Value). IsOf c.args.ty v) c.in-Int.is c.requires in
    let fits : FitsSigned w128 n = search rules in
    ap (λ (bs : List Byte). take (size_of c.args.ty) bs) c.low_bytes.ensures
    ∙ ap (λ m. take (size_of c.args.ty) (low_bytes 8 m)) (c.bits_in.ensures ∙ ap (bits_in c.in-Int.ty) (to_z-of_z w128 n fits))
    ∙ int_bytes c.args.ty c.in-Int.ty n of
    ∙ ap bytes_of (sym c.in-Int.is)
