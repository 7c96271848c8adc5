-- Aggregates under way, where the full ones are left.
use Rattle.std.proofs.Common.{◌≡◌, ◌∙◌, ap, sym, refl, Bool, true, false, List, [], ◌∷◌, ◌++◌, map}
use Rattle.std.specs.Prelude.{reverse, if◌then◌else◌, slice_get, Some, None}
use Rattle.std.proofs.lemmas.List.{map-append, reverse-append}
use Rattle.c_typing.specs.CurrentObject.{Frame, Aggregates, is_full, unfinished, aggregates_from, current, outermost}
use Rattle.c_check_fills.specs.declared.frames.Frame as code
use Rattle.c_check_fills.specs.RoomViews.{frame_tree}

-- seen from the inside, the last of the list is the innermost
pub seen_last : (outer : List code.Frame) (frame : code.Frame) → reverse (map frame_tree (outer ++ frame ∷ [])) ≡ frame_tree frame ∷ reverse (map frame_tree outer)
seen_last outer frame = ap reverse (map-append frame_tree outer (frame ∷ [])) ∙ reverse-append (map frame_tree outer) (frame_tree frame ∷ [])

last_is_outermost : (inner frame : Frame) (rest : List Frame) → outermost inner (rest ++ frame ∷ []) ≡ frame
last_is_outermost inner frame [] = refl
last_is_outermost inner frame (outer ∷ rest) = last_is_outermost outer frame rest

-- the first of the list is the outermost
pub seen_first : (inner : Frame) (outer : List code.Frame) (frame : code.Frame) → slice_get outer 0 ≡ Some frame
    → outermost inner (reverse (map frame_tree outer)) ≡ frame_tree frame
seen_first inner [] frame e = absurd (let f : None ≡ Some frame = e in cc)
seen_first inner (first ∷ rest) frame e =
    let same : first ≡ frame = let f : Some first ≡ Some frame = e in cc in
    ap (outermost inner) (reverse-append (frame_tree first ∷ []) (map frame_tree rest))
    ∙ last_is_outermost inner (frame_tree first) (reverse (map frame_tree rest)) ∙ ap frame_tree same

-- which aggregate the list falls back on does not matter
same_chosen : (b : Bool) (f g frame outer : Frame) (rest : List Frame) → aggregates_from f (unfinished outer rest) ≡ aggregates_from g (unfinished outer rest)
    → aggregates_from f (if b then unfinished outer rest else frame ∷ outer ∷ rest) ≡ aggregates_from g (if b then unfinished outer rest else frame ∷ outer ∷ rest)
same_chosen true f g frame outer rest e = e
same_chosen false f g frame outer rest e = refl

same_from : (f g frame : Frame) (outer : List Frame) → aggregates_from f (unfinished frame outer) ≡ aggregates_from g (unfinished frame outer)
unfolding unfinished
same_from f g frame [] = refl
same_from f g frame (outer ∷ rest) = same_chosen (is_full frame) f g frame outer rest (same_from f g outer rest)

chosen_full : (b : Bool) (frame outer : Frame) (rest : List Frame) → b ≡ true → (if b then unfinished outer rest else frame ∷ outer ∷ rest) ≡ unfinished outer rest
chosen_full b frame outer rest e = ap (λ c. if c then unfinished outer rest else frame ∷ outer ∷ rest) e

unfinished_full : (frame outer : Frame) (rest : List Frame) → is_full frame ≡ true → unfinished frame (outer ∷ rest) ≡ unfinished outer rest
unfolding unfinished
unfinished_full frame outer rest e = chosen_full (is_full frame) frame outer rest e

-- a full one is left
pub left_full : (frame outer : Frame) (rest : List Frame) → is_full frame ≡ true
    → current (record { inner = frame; outer = outer ∷ rest }) ≡ current (record { inner = outer; outer = rest })
left_full frame outer rest e = ap (aggregates_from frame) (unfinished_full frame outer rest e) ∙ same_from frame outer outer rest

-- the last is left by no one
pub last_stays : (frame : Frame) → current (record { inner = frame; outer = [] }) ≡ record { inner = frame; outer = [] }
unfolding unfinished
last_stays frame = refl

unfinished_open : (frame : Frame) (outer : List Frame) → is_full frame ≡ false → unfinished frame outer ≡ frame ∷ outer
unfolding unfinished
unfinished_open frame [] e = refl
unfinished_open frame (outer ∷ rest) e = ap (λ c. if c then unfinished outer rest else frame ∷ outer ∷ rest) e

pub open_stays : (frame : Frame) (outer : List Frame) → is_full frame ≡ false → current (record { inner = frame; outer = outer }) ≡ record { inner = frame; outer = outer }
open_stays frame outer e = ap (aggregates_from frame) (unfinished_open frame outer e)

abbrev pub seen : code.Frame → List code.Frame → Aggregates
seen inner outer = record { inner = frame_tree inner; outer = reverse (map frame_tree outer) }

pub at_last : (inner : code.Frame) (outer after : List code.Frame) → outer ≡ [] → after ≡ [] → seen inner after ≡ current (seen inner outer)
at_last inner outer after e f = ap (seen inner) f ∙ sym (last_stays (frame_tree inner)) ∙ ap (λ frames. current (seen inner frames)) (sym e)

pub left_last : (inner frame : code.Frame) (outer after : List code.Frame) → outer ≡ after ++ frame ∷ [] → is_full (frame_tree inner) ≡ true
    → current (seen inner outer) ≡ current (seen frame after)
left_last inner frame outer after e full =
    ap (λ (frames : List Frame). let a : Aggregates = record { inner = frame_tree inner; outer = frames } in current a)
    (ap (λ frames. reverse (map frame_tree frames)) e ∙ seen_last after frame)
    ∙ left_full (frame_tree inner) (frame_tree frame) (reverse (map frame_tree after)) full
