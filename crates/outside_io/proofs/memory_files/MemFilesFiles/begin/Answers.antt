-- What a `begin` leaves.
use Rattle.std.proofs.Common.{rules, refl, ◌≡◌, ℕ, List, Bool, true, false, Option, None, inl, inr, option_map}
use Rattle.outside_io.specs.Memory.{HeldFile, IsFirst, file_named}
use Rattle.outside_io.proofs.Held.{first_from_position, absent_from_position, found, fault_told, fault_later, raises_held, raises_absent}
use Rattle.outside_io.proofs.memory_files.MemFilesFiles.begin.Goals as goal

apart : {A : Type 0} → false ≡ true → A
apart h = cc

not_listed : {A : Type 0} {fails : Bool} → fails ≡ false → fails ≡ true → A
not_listed unlisted listed = cc

none_told : {A : Type 0} {files : List HeldFile} {n : List ℕ} {place : ℕ} → IsFirst files n place → option_map (λ f. f.bytes) (file_named files n) ≡ None → A
none_told first none = cc (found _ _ _ first)

absent_told : (o : Option HeldFile) → o ≡ None → option_map (λ f. f.bytes) o ≡ None
absent_told o none = rw none refl

pub returns-in_default-clause-failed : goal.returns-in_default-clause-failed
returns-in_default-clause-failed c =
    let absent = absent_from_position c.self.inside.files.items c.args.name.now c.in_default.ensures in
    rw (← c.self.view_is) ((λ _. inl (absent_told _ absent)), λ _. refl)

pub returns-in_default-clause-fault : goal.returns-in_default-clause-fault
returns-in_default-clause-fault c =
    rw (← c.self.view_is) (raises_absent _ _ _ (absent_from_position c.self.inside.files.items c.args.name.now c.in_default.ensures) refl c.saturating_add-self-inside.ensures)

pub returns-in_default-clause-held : goal.returns-in_default-clause-held
returns-in_default-clause-held c =
    let absent = absent_from_position c.self.inside.files.items c.args.name.now c.in_default.ensures in
    rw (← c.self.view_is) (λ _ told. rw absent at told)

pub returns-then-fails-clause-told : goal.returns-then-fails-clause-told
returns-then-fails-clause-told c =
    let first = first_from_position c.self.inside.files.items c.args.name.now c.in-Some.place c.in-Some.ensures in
    rw (← c.self.view_is) (fault_told _ _ _ _ first c.fail_at.ensures.items)

pub returns-then-fails-clause-later : goal.returns-then-fails-clause-later
returns-then-fails-clause-later c =
    let first = first_from_position c.self.inside.files.items c.args.name.now c.in-Some.place c.in-Some.ensures in
    rw (← c.self.view_is) (fault_later _ _ _ _ _ first c.fail_at.ensures.items c.fail_at.ensures.later)

pub returns-then-fails-clause-fault : goal.returns-then-fails-clause-fault
returns-then-fails-clause-fault c =
    let first = first_from_position c.self.inside.files.items c.args.name.now c.in-Some.place c.in-Some.ensures in
    rw (← c.self.view_is) (raises_held _ _ _ _ first c.fail_at.ensures.items refl)

pub invariant_of-self-2 : goal.invariant_of-self-2
invariant_of-self-2 c =
    let first = first_from_position c.self.inside.files.items c.args.name.now c.in-Some.place c.in-Some.ensures in
    record { first = rw first.named first; bytes = search rules }

pub returns-clause-failed : goal.returns-clause-failed
returns-clause-failed c =
    let first = first_from_position c.self.inside.files.items c.args.name.now c.in-Some.place c.in-Some.ensures in
    rw (← c.self.view_is) (
      apart,
      λ either. elim either [
        | inl none ↦ none_told first none
        | inr listed ↦ not_listed c.if-fails.false (c.next_fails-fails.ensures.listed.1 listed)
      ],
    )

pub returns-clause-open : goal.returns-clause-open
returns-clause-open c =
    let first = first_from_position c.self.inside.files.items c.args.name.now c.in-Some.place c.in-Some.ensures in
    rw first.named refl
