-- What a writer whose bytes are known holds after the front of a piece was written.
use Rattle.std.proofs.Common.{ℕ, List, Option, None, Some, sym, ◌∙◌, take, drop, take-append-drop}
use Rattle.std.specs.Io.KnownBytes.{Appends, Keeps}
use Rattle.outside_io.specs.Io.{IsFront}

appends_kept : (old mid new : Option (List ℕ)) (bs : List ℕ) → Appends old mid bs → Keeps mid new → Appends old new bs
appends_kept None mid new bs grows keeps = tt
appends_kept (Some x) None new bs grows keeps = absurd grows
appends_kept (Some x) (Some y) None bs grows keeps = absurd keeps
appends_kept (Some x) (Some y) (Some z) bs grows keeps = keeps ∙ grows

-- after the flush too, which failed
pub taken_front : (old mid new : Option (List ℕ)) (k : ℕ) (piece : List ℕ) → Appends old mid (take k piece) → Keeps mid new
    → (front : List ℕ) × IsFront front piece × Appends old new front
taken_front old mid new k piece grows keeps =
    (take k piece, (drop k piece, sym (take-append-drop k piece)), appends_kept old mid new (take k piece) grows keeps)
