-- What a row finds, where its item is the next of a typed run.
use Rattle.std.proofs.Common.{List, []}
use Rattle.c_syntax.specs.Program.{TProgramTree}
use Rattle.c_values.specs.Places.{ObjectMemory}
use Rattle.c_steps.specs.Work.{Item, LoadAt, StoreAt, Named, CopyAt, Modify, StepAt, Un, Bin, Conv, Move, Truth, Sure, Drop, Reach, Fill, FillCopy, Rest}
use Rattle.c_steps.specs.States.{Held, State}
use Rattle.c_steps_laws.specs.Needs.{Needs}
use Rattle.c_steps_laws.specs.Shapes.{HasShape}
use Rattle.c_steps_laws.specs.Laws.{IsSound}
use Rattle.c_steps_laws.proofs.Shaped.{shaped}
use Rattle.c_steps_laws.proofs.NeededRows.{needs}
use Rattle.c_steps_laws.proofs.Sound.{sound}
use Rattle.c_machine_values.specs.Items.{IsValueItem}
use Rattle.c_machine_values.specs.Needs.{IsReady}
use Rattle.c_machine.specs.States.{IsNext, before}

pub shape_of : (p : TProgramTree) (item : Item) (s : State) → IsNext p item s → HasShape item s.stack
shape_of p item s h = shaped h.fits

pub needs_of : (p : TProgramTree) (item : Item) (s : State) → IsNext p item s → Needs p item s.work s.stack s.memory
needs_of p item s h = needs h.typed h.fits

pub sound_of : (p : TProgramTree) (item : Item) (s : State) → IsNext p item s → IsSound p s.memory
sound_of p item s h = sound p h.typed (before item s) h.fits

-- rows that change stack and memory alone ask nothing of the work
without_work : (p : TProgramTree) (item : Item) (w : List Item) (s : List Held) (m : ObjectMemory) → IsValueItem item → Needs p item w s m → Needs p item [] s m
without_work p (LoadAt at ty) w s m k h = h
without_work p (StoreAt at ty) w s m k h = h
without_work p (Named at) w s m k h = h
without_work p (CopyAt at extent) w s m k h = h
without_work p (Modify at at_place ty op) w s m k h = h
without_work p (StepAt at at_place ty time way stride) w s m k h = h
without_work p (Un at op ty) w s m k h = h
without_work p (Bin at op) w s m k h = h
without_work p (Conv ty) w s m k h = h
without_work p (Move at offset) w s m k h = h
without_work p (Truth at ty) w s m k h = h
without_work p (Sure at ty) w s m k h = h
without_work p Drop w s m k h = h
without_work p (Reach at end) w s m k h = h
without_work p (Fill x offset ty) w s m k h = h
without_work p (FillCopy x offset extent) w s m k h = h
without_work p (Rest x inits) w s m k h = h
without_work p item w s m k h = absurd k

pub value_ready : (p : TProgramTree) (item : Item) (s : State) → IsValueItem item → IsNext p item s → IsReady item s.stack s.memory
value_ready p item s k h =
    (shape_of p item s h, (p, (sound_of p item s h).fits, without_work p item s.work s.stack s.memory k (needs_of p item s h)))
