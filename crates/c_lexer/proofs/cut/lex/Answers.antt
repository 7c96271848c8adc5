use Rattle.std.proofs.Common.{◌≡◌, [], refl, sym, ap, ◌∙◌, subst, arith}
use Rattle.std.proofs.lemmas.Grind.{common_steps}
use Rattle.c_syntax_written.specs.declared.token.Tokens.{Tokens}
use Rattle.c_lexer.specs.Cut.{Front, here, start_of, StandInOrder}
use Rattle.c_lexer.specs.declared.piece.Piece.TheVariants as pieces
use Rattle.c_lexer.proofs.Fronts.{next_white, next_token, rest_short, refused_piece, hash_piece, told, same_told, whole_cut}
use Rattle.c_lexer.proofs.Laws.{same_cut, cut_no_uncut, refused_cut}
use Rattle.c_lexer.proofs.Order.{in_order}
use Rattle.c_lexer.proofs.cut.lex.Goals as goal
use Rattle.c_lexer.proofs.cut.lex.Goals.{in-White, in-Token+in_ok-push-in-Token}

pub loop-rest-init : goal.loop-rest-init
loop-rest-init c = record {
  front = subst (λ v. Front c.args.bytes.now (start_of c.args.file) v c.args.bytes.now (start_of c.args.file)) (sym c.new-tokens.ensures.items) here;
  line = omega arith;
  col = omega arith;
}

pub loop-rest-preserved : goal.loop-rest-preserved
loop-rest-preserved c = record {
  front = elim c.match-branch-2.branch [
    | in-White w ↦ subst (λ v. Front c.args.bytes.now (start_of c.args.file) v.items c.split_at-in-loop-rest.result.1.now c.moved-at.result) (sym w.tokens-is) (next_white c.loop-rest.invariant.front c.in_ok-len.field-0 c.match-branch-2.len c.in_ok-len.ensures (w.in-White.is ∙ ap pieces.White (sym w.len-is)) _ _ _ c.split_at-in-loop-rest.ensures.front c.split_at-in-loop-rest.ensures.back c.moved-at.ensures.is)
    | in-Token+in_ok-push-in-Token w ↦ subst (λ v. Front c.args.bytes.now (start_of c.args.file) v c.split_at-in-loop-rest.result.1.now c.moved-at.result) (sym (ap (λ v. v.items) w.tokens-is ∙ w.in_ok-push-in-Token.ensures.items)) (next_token c.loop-rest.invariant.front c.in_ok-len.field-0 w.in-Token.token c.match-branch-2.len c.in_ok-len.ensures (w.in-Token.is ∙ ap (pieces.Token w.in-Token.token) (sym w.len-is)) _ _ _ c.split_at-in-loop-rest.ensures.front c.split_at-in-loop-rest.ensures.back c.moved-at.ensures.is)
  ];
  line = omega arith;
  col = omega arith;
}

pub returns-clause-order : goal.returns-clause-order
returns-clause-order c = subst StandInOrder (sym c.from_vec.ensures) (in_order c.loop-rest.invariant.front)

pub overflow_sub-bytes : goal.overflow_sub-bytes
overflow_sub-bytes c = rest_short c.loop-rest.invariant.front

pub returns-in-Refused-clause-refused : goal.returns-in-Refused-clause-refused
returns-in-Refused-clause-refused c =
    let h = refused_piece c.args.file c.args.bytes.now c.loop-rest.rest.now c.split_at.result.0.now c.loop-rest.tokens.items c.loop-rest.at c.moved.result c.in-Refused.reason c.in-Refused.place c.in_ok-len.field-0 c.loop-rest.invariant.front c.in_ok-len.ensures c.in-Refused.is c.split_at.ensures.front c.moved.ensures.is in
    told c.args.file c.args.bytes.now c.moved.result c.in-Refused.reason c.error_at.result h c.error_at.ensures

pub returns-in-Refused-clause-only_cut : goal.returns-in-Refused-clause-only_cut
returns-in-Refused-clause-only_cut c = λ v d.
    let h = refused_piece c.args.file c.args.bytes.now c.loop-rest.rest.now c.split_at.result.0.now c.loop-rest.tokens.items c.loop-rest.at c.moved.result c.in-Refused.reason c.in-Refused.place c.in_ok-len.field-0 c.loop-rest.invariant.front c.in_ok-len.ensures c.in-Refused.is c.split_at.ensures.front c.moved.ensures.is in
    absurd (refused_cut c.args.file c.args.bytes.now c.moved.result c.in-Refused.reason v h d)

pub returns-in-Refused-clause-only_refused : goal.returns-in-Refused-clause-only_refused
returns-in-Refused-clause-only_refused c =
    let h = refused_piece c.args.file c.args.bytes.now c.loop-rest.rest.now c.split_at.result.0.now c.loop-rest.tokens.items c.loop-rest.at c.moved.result c.in-Refused.reason c.in-Refused.place c.in_ok-len.field-0 c.loop-rest.invariant.front c.in_ok-len.ensures c.in-Refused.is c.split_at.ensures.front c.moved.ensures.is in
    same_told c.args.file c.args.bytes.now c.moved.result c.in-Refused.reason c.error_at.result h c.error_at.ensures

pub returns-in-Hash-clause-refused : goal.returns-in-Hash-clause-refused
returns-in-Hash-clause-refused c =
    let h = hash_piece c.args.file c.args.bytes.now c.loop-rest.rest.now c.split_at-in-Hash.result.0.now c.loop-rest.tokens.items c.loop-rest.at c.hash_reason.result c.in_ok-len.field-0 c.loop-rest.invariant.front c.in_ok-len.ensures c.in-Hash.is c.split_at-in-Hash.ensures.front c.hash_reason.ensures in
    told c.args.file c.args.bytes.now c.loop-rest.at c.hash_reason.result c.error_at-in-Hash.result h c.error_at-in-Hash.ensures

pub returns-in-Hash-clause-only_cut : goal.returns-in-Hash-clause-only_cut
returns-in-Hash-clause-only_cut c = λ v d.
    let h = hash_piece c.args.file c.args.bytes.now c.loop-rest.rest.now c.split_at-in-Hash.result.0.now c.loop-rest.tokens.items c.loop-rest.at c.hash_reason.result c.in_ok-len.field-0 c.loop-rest.invariant.front c.in_ok-len.ensures c.in-Hash.is c.split_at-in-Hash.ensures.front c.hash_reason.ensures in
    absurd (refused_cut c.args.file c.args.bytes.now c.loop-rest.at c.hash_reason.result v h d)

pub returns-in-Hash-clause-only_refused : goal.returns-in-Hash-clause-only_refused
returns-in-Hash-clause-only_refused c =
    let h = hash_piece c.args.file c.args.bytes.now c.loop-rest.rest.now c.split_at-in-Hash.result.0.now c.loop-rest.tokens.items c.loop-rest.at c.hash_reason.result c.in_ok-len.field-0 c.loop-rest.invariant.front c.in_ok-len.ensures c.in-Hash.is c.split_at-in-Hash.ensures.front c.hash_reason.ensures in
    same_told c.args.file c.args.bytes.now c.loop-rest.at c.hash_reason.result c.error_at-in-Hash.result h c.error_at-in-Hash.ensures

pub returns-clause-only_cut : goal.returns-clause-only_cut
returns-clause-only_cut c = λ v d.
    let e : c.loop-rest.rest.now ≡ [] = grind (arith, common_steps) in
    let w : Tokens = record { list = c.from_vec.result; marks = c.new.result; end = c.loop-rest.at } in
    same_cut c.args.file c.args.bytes.now w v (whole_cut c.args.file c.args.bytes.now c.loop-rest.rest.now c.loop-rest.tokens.items c.loop-rest.at w c.loop-rest.invariant.front e c.from_vec.ensures c.new.ensures refl) d

pub returns-clause-only_refused : goal.returns-clause-only_refused
returns-clause-only_refused c = λ q b u.
    let e : c.loop-rest.rest.now ≡ [] = grind (arith, common_steps) in
    let w : Tokens = record { list = c.from_vec.result; marks = c.new.result; end = c.loop-rest.at } in
    cut_no_uncut c.args.file c.args.bytes.now w q b (whole_cut c.args.file c.args.bytes.now c.loop-rest.rest.now c.loop-rest.tokens.items c.loop-rest.at w c.loop-rest.invariant.front e c.from_vec.ensures c.new.ensures refl) u
