-- The end of a list is its front.
use Rattle.std.proofs.Common.{◌≡◌, List, [], ◌∷◌, ◌++◌, refl}
use Rattle.c_steps.specs.Work as steps
use Rattle.c_steps.specs.States as states
use Rattle.c_machine_work.specs.declared.items.Item.{Item}
use Rattle.c_machine_work.specs.declared.stack.Held.{Held}
use Rattle.c_machine_work.specs.Views.{held_of, in_front, item_of, on_top}

pub in_front_none : (work : List steps.Item) → in_front [] work ≡ work
unfolding in_front
in_front_none work = refl

pub in_front_push : (list : List Item) (last : Item) (work : List steps.Item) → in_front (list ++ last ∷ []) work ≡ item_of last ∷ in_front list work
unfolding in_front
in_front_push [] last work = refl
in_front_push (item ∷ list) last work = in_front_push list last (item_of item ∷ work)

pub on_top_none : (stack : List states.Held) → on_top [] stack ≡ stack
unfolding on_top
on_top_none stack = refl

pub on_top_push : (list : List Held) (last : Held) (stack : List states.Held) → on_top (list ++ last ∷ []) stack ≡ held_of last ∷ on_top list stack
unfolding on_top
on_top_push [] last stack = refl
on_top_push (x ∷ list) last stack = on_top_push list last (held_of x ∷ stack)

pub ruleset the_lists = (in_front_none, in_front_push, on_top_none, on_top_push)
