-- Items whose rows change stack and memory alone.
use Rattle.c_steps.specs.Work.{Item, LoadAt, StoreAt, Named, CopyAt, Modify, StepAt, Un, Bin, Conv, Move, Truth, Sure, Drop, Reach, Fill, FillCopy, Rest}

abbrev pub IsValueItem : Item → Type 0
IsValueItem (LoadAt at ty) = Unit {0}
IsValueItem (StoreAt at ty) = Unit {0}
IsValueItem (Named at) = Unit {0}
IsValueItem (CopyAt at extent) = Unit {0}
IsValueItem (Modify at at_place ty op) = Unit {0}
IsValueItem (StepAt at at_place ty time way stride) = Unit {0}
IsValueItem (Un at op ty) = Unit {0}
IsValueItem (Bin at op) = Unit {0}
IsValueItem (Conv ty) = Unit {0}
IsValueItem (Move at offset) = Unit {0}
IsValueItem (Truth at ty) = Unit {0}
IsValueItem (Sure at ty) = Unit {0}
IsValueItem Drop = Unit {0}
IsValueItem (Reach at end) = Unit {0}
IsValueItem (Fill x offset ty) = Unit {0}
IsValueItem (FillCopy x offset extent) = Unit {0}
IsValueItem (Rest x inits) = Unit {0}
IsValueItem item = ⊥
