-- What holds after a step of a typed run.
use Rattle.std.proofs.Common.{◌≡◌, ◌≤◌, ℕ, ℤ, List, ◌∷◌, length, sym, subst}
use Rattle.c_syntax.specs.Types.{CTypeTree}
use Rattle.c_syntax.specs.Program.{TProgramTree}
use Rattle.c_values.specs.Places.{ObjectMemory}
use Rattle.c_steps.specs.Work.{Item}
use Rattle.c_steps.specs.States.{Held, Next, goes}
use Rattle.c_steps_laws.specs.Wants.{Want, HasWant, is_value, is_struct, is_any, Stacked, bottom, on_top}
use Rattle.c_steps_laws.specs.Takes.{Takes}
use Rattle.c_steps_laws.specs.Opens.{OpensCall}
use Rattle.c_steps_laws.specs.Fits.{AreLive, Parted, Fits}
use Rattle.c_steps_laws.proofs.Values.{After, made_more}
use Rattle.c_objects.proofs.Keeping.{keeps_objects}
use Rattle.c_steps_laws.proofs.Kept.{KeepsIn}

-- what is held stays what is wanted while blocks are made
pub want_more : (n k : ℕ) {t : Want} {x : Held} → n ≤ k → HasWant n t x → HasWant k t x
want_more n k le (is_value {v = v} h made) = is_value h (made_more n k v le made)
want_more n k le (is_struct {v = v} h made) = is_struct h (made_more n k v le made)
want_more n k le is_any = is_any

pub stacked_more : (n k : ℕ) {ts : List Want} {s : List Held} → n ≤ k → Stacked n ts s → Stacked k ts s
stacked_more n k le bottom = bottom
stacked_more n k le (on_top h d) = on_top (want_more n k le h) (stacked_more n k le d)

module _ (p : TProgramTree) where
  abbrev pub On : Next → Type 0
  On next = After (Fits p) next

  pub fit : (r : CTypeTree) (w : List Item) (s : List Held) (m : ObjectMemory) (i : List ℤ) (ts : List Want) → Takes p r w ts → Stacked (length m.blocks) ts s
      → Parted (OpensCall p) p w → AreLive p w m → KeepsIn p m → On (goes w s m i)
  fit r w s m i ts k d q l h = record { result = r; wants = ts; takes = k; stacked = d; parted = q; live = l; kept = keeps_objects _ p.objects m h; whole = h.whole }

  pub as_top : (r : CTypeTree) (w : List Item) (ts : List Want) (a b : Want) → a ≡ b → Takes p r w (b ∷ ts) → Takes p r w (a ∷ ts)
  as_top r w ts a b e k = subst (λ t. Takes p r w (t ∷ ts)) (sym e) k

  pub as_two : (r : CTypeTree) (w : List Item) (ts : List Want) (a b c d : Want) → a ≡ b → c ≡ d → Takes p r w (b ∷ d ∷ ts) → Takes p r w (a ∷ c ∷ ts)
  as_two r w ts a b c d e f k = as_top r w (c ∷ ts) a b e (subst (λ t. Takes p r w (b ∷ t ∷ ts)) (sym f) k)
