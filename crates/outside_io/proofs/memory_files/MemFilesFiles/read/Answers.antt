-- What a `read` leaves.
use Rattle.std.proofs.Common.{refl, ◌≡◌}
use Rattle.std.proofs.lemmas.List.{get_or_read}
use Rattle.outside_io.specs.Memory.{IsOpenPlace, file_at}
use Rattle.outside_io.proofs.Held.{found, fault_told, fault_later, raises_held}
use Rattle.outside_io.proofs.memory_files.MemFilesFiles.read.Goals as goal

pub returns-then-fails-clause-told : goal.returns-then-fails-clause-told
returns-then-fails-clause-told c =
    let opened : IsOpenPlace c.self.inside.files.items c.in-Some.current.place c.in-Some.current.given = rw c.in-Some.is at c.self.invariant in
    rw (← c.self.view_is) (fault_told _ _ _ _ opened.first c.fail_at.ensures.items)

pub returns-then-fails-clause-later : goal.returns-then-fails-clause-later
returns-then-fails-clause-later c =
    let opened : IsOpenPlace c.self.inside.files.items c.in-Some.current.place c.in-Some.current.given = rw c.in-Some.is at c.self.invariant in
    rw (← c.self.view_is) (fault_later _ _ _ _ _ opened.first c.fail_at.ensures.items c.fail_at.ensures.later)

pub returns-then-fails-clause-fault : goal.returns-then-fails-clause-fault
returns-then-fails-clause-fault c =
    let opened : IsOpenPlace c.self.inside.files.items c.in-Some.current.place c.in-Some.current.given = rw c.in-Some.is at c.self.invariant in
    rw (← c.self.view_is) (λ n is_open.
    let same : (file_at c.self.inside.files.items c.in-Some.current.place).name ≡ n = rw c.in-Some.is at is_open in
    rw (← same) (raises_held _ _ _ _ opened.first c.fail_at.ensures.items refl))

pub invariant_of-self-2 : goal.invariant_of-self-2
invariant_of-self-2 c =
    let opened : IsOpenPlace c.self.inside.files.items c.in-Some.current.place c.in-Some.current.given = rw c.in-Some.is at c.self.invariant in
    let is : c.index-file.result.now ≡ file_at c.self.inside.files.items c.in-Some.current.place = get_or_read _ _ _ opened.first.within c.index-file.ensures _ in
    record { first = opened.first; bytes = rw is at c.give-count.ensures.within }

pub returns-clause-count : goal.returns-clause-count
returns-clause-count c =
    let opened : IsOpenPlace c.self.inside.files.items c.in-Some.current.place c.in-Some.current.given = rw c.in-Some.is at c.self.invariant in
    let is : c.index-file.result.now ≡ file_at c.self.inside.files.items c.in-Some.current.place = get_or_read _ _ _ opened.first.within c.index-file.ensures _ in
    rw (← c.self.view_is, c.in-Some.is, found _ _ _ opened.first) (rw is at c.give-count.ensures.count)

pub returns-clause-bytes : goal.returns-clause-bytes
returns-clause-bytes c =
    let opened : IsOpenPlace c.self.inside.files.items c.in-Some.current.place c.in-Some.current.given = rw c.in-Some.is at c.self.invariant in
    let is : c.index-file.result.now ≡ file_at c.self.inside.files.items c.in-Some.current.place = get_or_read _ _ _ opened.first.within c.index-file.ensures _ in
    rw (← c.self.view_is, c.in-Some.is, found _ _ _ opened.first) (rw is at c.give-count.ensures.bytes)
