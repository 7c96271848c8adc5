use Rattle.std.proofs.Common.{ap, sym, ◌∙◌}
use Rattle.std.specs.Prelude.{slice_get}
use Rattle.c_typing.specs.CurrentObject.{Frame}
use Rattle.c_check_fills.specs.RoomViews.{frame_tree}
use Rattle.c_check_fills.proofs.Current.{seen_first}
use Rattle.c_check_fills.proofs.aggregates.Aggregates.own_count.Goals as goal

pub returns-in-Some : goal.returns-in-Some
returns-in-Some c =
    let items = c.args.self.now.outer.items in
    sym (ap (λ (frame : Frame). frame.next) (seen_first (frame_tree c.args.self.now.inner) items c.in-Some.outermost.now (sym (c.in-Some.ensures.value ∙ ap (λ frames. slice_get frames 0) c.deref.ensures.value))))
