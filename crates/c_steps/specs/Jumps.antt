-- Jumps: each drops work, and does what it drops of the ends of blocks, in their order (C11 6.8.6, 6.2.4p6).
use Rattle.std.specs.Prelude.{ℕ, ℤ, if◌then◌else◌, List, [], ◌∷◌}
use Rattle.c_objects.specs.Opening.{shut_all}
use Rattle.c_values.specs.Places.{ObjectMemory}
use Rattle.c_steps.specs.Work.{Item, Again, SwitchEnd, Reach, Close}
use Rattle.c_steps.specs.States.{Held, Next, Stands, goes}
use Rattle.c_steps.specs.Marks.{AtLabel, has, behind, does}

-- `break`: behind the nearest loop or switch (C11 6.8.6.3p2)
abbrev pub broken : List Item → List Held → ObjectMemory → List ℤ → Next
broken [] s m i = Stands
broken (Again k loop ∷ work) s m i = goes work s m i
broken (SwitchEnd ∷ work) s m i = goes work s m i
broken (Reach at end ∷ work) s m i = Stands
broken (Close objects items ∷ work) s m i = broken work s (shut_all m objects) i
broken (item ∷ work) s m i = broken work s m i

-- `continue`: at the end of the nearest loop's body (C11 6.8.6.2p2)
abbrev pub continued : List Item → List Held → ObjectMemory → List ℤ → Next
continued [] s m i = Stands
continued (Again k loop ∷ work) s m i = goes (Again k loop ∷ work) s m i
continued (Reach at end ∷ work) s m i = Stands
continued (Close objects items ∷ work) s m i = continued work s (shut_all m objects) i
continued (item ∷ work) s m i = continued work s m i

-- `goto`: behind the label, in the nearest block that has it (C11 6.8.6.1p2)
abbrev pub jumped : ℕ → List Item → List Held → ObjectMemory → List ℤ → Next
jumped label [] s m i = Stands
jumped label (Reach at end ∷ work) s m i = Stands
jumped label (Close objects items ∷ work) s m i =
    if has (AtLabel label) items then goes (does (behind (AtLabel label) items) (Close objects items ∷ work)) s m i
    else jumped label work s (shut_all m objects) i
jumped label (item ∷ work) s m i = jumped label work s m i

-- `return`: behind the call, with what it gives (C11 6.8.6.4p2 and p3)
abbrev pub left : List Item → Held → List Held → ObjectMemory → List ℤ → Next
left [] v s m i = Stands
left (Reach at end ∷ work) v s m i = goes work (v ∷ s) m i
left (Close objects items ∷ work) v s m i = left work v s (shut_all m objects) i
left (item ∷ work) v s m i = left work v s m i
