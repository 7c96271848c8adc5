use Rattle.std.proofs.Common.{◌≡◌, [], refl, arith}
use Rattle.std.proofs.lemmas.Grind.{common_steps}
use Rattle.c_syntax_written.specs.declared.token.Tokens.{Tokens}
use Rattle.c_lexer.specs.Cut.{here}
use Rattle.c_lexer.proofs.Fronts.{rest_short, refused_piece, hash_piece, whole_cut}
use Rattle.c_lexer.proofs.Laws.{uncut_of}
use Rattle.c_lexer.proofs.Stretches.{over_front, refused_is, hash_is}
use Rattle.c_lexer.proofs.stretch.cut_or_uncut.Goals as goal

pub loop-rest-init : goal.loop-rest-init
loop-rest-init c = record {
  front = ([], here);
  line = omega arith;
  col = omega arith;
}

pub loop-rest-preserved : goal.loop-rest-preserved
loop-rest-preserved c =
    let p = c.in-Over.ensures in
    record {
      front = over_front c.loop-rest.invariant.front.1 p.0 c.in-Over.len p.1 p.2 _ _ _ c.split_at-in-loop-rest.ensures.front c.split_at-in-loop-rest.ensures.back c.moved-at.ensures.is;
      line = omega arith;
      col = omega arith;
    }

pub overflow_sub-bytes : goal.overflow_sub-bytes
overflow_sub-bytes c = rest_short c.loop-rest.invariant.front.1

pub returns-in-Refused : goal.returns-in-Refused
returns-in-Refused c =
    let p = c.in-Refused.ensures in
    uncut_of c.args.file c.args.bytes.now c.moved.result c.in-Refused.reason (refused_piece c.args.file c.args.bytes.now c.loop-rest.rest.now c.split_at.result.0.now c.loop-rest.invariant.front.0 c.loop-rest.at c.moved.result c.in-Refused.reason c.in-Refused.place p.0 c.loop-rest.invariant.front.1 p.1 (refused_is p.0 c.in-Refused.reason c.in-Refused.place p.2) c.split_at.ensures.front c.moved.ensures.is)

pub returns-in-Hash : goal.returns-in-Hash
returns-in-Hash c =
    let p = c.in-Hash.ensures in
    uncut_of c.args.file c.args.bytes.now c.loop-rest.at c.hash_reason.result (hash_piece c.args.file c.args.bytes.now c.loop-rest.rest.now c.split_at-in-Hash.result.0.now c.loop-rest.invariant.front.0 c.loop-rest.at c.hash_reason.result p.0 c.loop-rest.invariant.front.1 p.1 (hash_is p.0 p.2) c.split_at-in-Hash.ensures.front c.hash_reason.ensures)

pub returns : goal.returns
returns c =
    let e : c.loop-rest.rest.now ≡ [] = grind (arith, common_steps) in
    let w : Tokens = record { list = c.loop-rest.invariant.front.0; marks = []; end = c.loop-rest.at } in
    (w, whole_cut c.args.file c.args.bytes.now c.loop-rest.rest.now c.loop-rest.invariant.front.0 c.loop-rest.at w c.loop-rest.invariant.front.1 e refl refl refl)
