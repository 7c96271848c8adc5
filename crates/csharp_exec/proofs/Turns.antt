-- Turns of loops, and gotos that come back, one by one.
use Rattle.std.proofs.Common.{◌≡◌, ℕ, zero, suc, ◌+◌, Bool, true, false, refl, sym, subst, ap, ◌∙◌, arith, Option, Some}
use Rattle.c_syntax_written.specs.declared.place.Pos.{Pos}
use Rattle.csharp.specs.Trees.{CsStmtTree, CsStmtTrees, CsProgramTree, Loop}
use Rattle.csharp.specs.States.{State}
use Rattle.csharp.specs.Outcomes.{Outcome, Normal, Leaves, ByGoto, NoFuel, Over, then_do}
use Rattle.csharp.specs.Meaning.{Later, Mark, AtLabel, Anew, Turn, bounded_exec, caught, has, later_by, level}
use Rattle.csharp_exec.specs.Meets.{Less, behind_goto, behind_normal, comes_past, less_by, meets, met_by_gotos, met_row}
use Rattle.csharp_exec.specs.Stages.{catching, row}

module _ (over : ℕ → Bool) (q : CsProgramTree) (at : Pos) (a : CsStmtTree) where
  pub loop_over : (l : Later) (k : ℕ) (s : State) → over k ≡ true → level over q l (Turn k) (Loop at a) s ≡ Over
  loop_over l k s e = rw e refl

  goes : (l : Later) (k : ℕ) (s : State) → over k ≡ false
      → level over q l (Turn k) (Loop at a) s ≡ then_do (level over q l Anew a s) (λ t. l.statement (Turn (suc k)) (Loop at a) t)
  goes l k s e = rw e refl

  pub loop_left : (l : Later) (k : ℕ) (s : State) (o : Outcome) → over k ≡ false → o ≡ level over q l Anew a s
      → ((next : State → Outcome) → then_do o next ≡ o) → level over q l (Turn k) (Loop at a) s ≡ o
  loop_left l k s o e is stays =
      goes l k s e ∙ ap (λ x. then_do x (λ t. l.statement (Turn (suc k)) (Loop at a) t)) (sym is) ∙ stays (λ t. l.statement (Turn (suc k)) (Loop at a) t)

  turned : (l : Later) (k : ℕ) (s t : State) → over k ≡ false → Normal t ≡ level over q l Anew a s
      → level over q l (Turn k) (Loop at a) s ≡ l.statement (Turn (suc k)) (Loop at a) t
  turned l k s t e is = goes l k s e ∙ ap (λ x. then_do x (λ u. l.statement (Turn (suc k)) (Loop at a) u)) (sym is)

  pub loop_ends : (k : ℕ) (s t : State) → over k ≡ false → Normal t ≡ level over q (later_by over q zero) Anew a s
      → level over q (later_by over q zero) (Turn k) (Loop at a) s ≡ NoFuel
  loop_ends k s t e is = turned (later_by over q zero) k s t e is

  pub loop_turns : (n k : ℕ) (s t : State) → over k ≡ false → Normal t ≡ level over q (later_by over q (suc n)) Anew a s
      → level over q (later_by over q (suc n)) (Turn k) (Loop at a) s ≡ level over q (later_by over q n) (Turn (suc k)) (Loop at a) t
  loop_turns n k s t e is = turned (later_by over q (suc n)) k s t e is

module _ (over : ℕ → Bool) (q : CsProgramTree) (all : CsStmtTrees) where
  landed : (l : Later) (label : ℕ) (s : State) → has (AtLabel label) all ≡ true → caught l all (Leaves (ByGoto label) s) ≡ l.items (AtLabel label) all s
  landed l label s e = rw e refl

  pub stays : (fuel : ℕ) (from : Option Mark) (s : State) (o : Outcome) → o ≡ row over q fuel from all s → caught (later_by over q fuel) all o ≡ o
      → catching over q fuel from all s ≡ o
  stays fuel from s o is out = ap (caught (later_by over q fuel) all) (sym is) ∙ out

  pub lands_nowhere : (from : Option Mark) (s t : State) (label : ℕ) → Leaves (ByGoto label) t ≡ row over q zero from all s → has (AtLabel label) all ≡ true
      → catching over q zero from all s ≡ NoFuel
  lands_nowhere from s t label is e = ap (caught (later_by over q zero) all) (sym is) ∙ landed (later_by over q zero) label t e

  pub lands : (n : ℕ) (from : Option Mark) (s t : State) (label : ℕ) → Leaves (ByGoto label) t ≡ row over q (suc n) from all s
      → has (AtLabel label) all ≡ true → catching over q (suc n) from all s ≡ catching over q n (Some (AtLabel label)) all t
  lands n from s t label is e = ap (caught (later_by over q (suc n)) all) (sym is) ∙ landed (later_by over q (suc n)) label t e

-- one more turn, with one unit of fuel less
pub loop_next : (over : ℕ → Bool) (q : CsProgramTree) (at : Pos) (a : CsStmtTree) (fuel n k : ℕ) (s t : State) → fuel ≡ suc n → over k ≡ false
    → Normal t ≡ bounded_exec over q fuel a s
    → level over q (later_by over q fuel) (Turn k) (Loop at a) s ≡ level over q (later_by over q n) (Turn (k + 1)) (Loop at a) t
loop_next over q at a fuel n k s t f e is =
    let next : suc k ≡ k + 1 = omega arith in
    ap (λ m. level over q (later_by over q m) (Turn k) (Loop at a) s) f
    ∙ loop_turns over q at a n k s t e (subst (λ m. Normal t ≡ bounded_exec over q m a s) f is)
    ∙ ap (λ j. level over q (later_by over q n) (Turn j) (Loop at a) t) next

-- ---- what is met in turns, and behind gotos

module _ (over : ℕ → Bool) (q : CsProgramTree) (at : Pos) (a : CsStmtTree) (l : Later) (m : Less) (k : ℕ) (s : State) (e : over k ≡ false) where
  pub turn_meets : meets over q l m Anew a s ≡ true → meets over q l m (Turn k) (Loop at a) s ≡ true
  turn_meets met = rw (e, met) refl

  behind_turn : meets over q l m Anew a s ≡ false
      → meets over q l m (Turn k) (Loop at a) s ≡ behind_normal (level over q l Anew a s) (λ t. m.statement (Turn (suc k)) (Loop at a) t)
  behind_turn unmet = rw (e, unmet) refl

  pub turn_left : (o : Outcome) → meets over q l m Anew a s ≡ false → o ≡ level over q l Anew a s → ((next : State → Bool) → behind_normal o next ≡ false)
      → meets over q l m (Turn k) (Loop at a) s ≡ false
  turn_left o unmet is stays =
      behind_turn unmet ∙ ap (λ x. behind_normal x (λ t. m.statement (Turn (suc k)) (Loop at a) t)) (sym is)
      ∙ stays (λ t. m.statement (Turn (suc k)) (Loop at a) t)

  pub turn_goes : (t : State) → meets over q l m Anew a s ≡ false → Normal t ≡ level over q l Anew a s
      → meets over q l m (Turn k) (Loop at a) s ≡ m.statement (Turn (suc k)) (Loop at a) t
  turn_goes t unmet is = behind_turn unmet ∙ ap (λ x. behind_normal x (λ u. m.statement (Turn (suc k)) (Loop at a) u)) (sym is)

-- one more turn, with one unit of fuel less
pub past_next : (over : ℕ → Bool) (q : CsProgramTree) (at : Pos) (a : CsStmtTree) (fuel n k : ℕ) (s t : State) → fuel ≡ suc n → over k ≡ false
    → comes_past over q fuel a s ≡ false → Normal t ≡ bounded_exec over q fuel a s
    → meets over q (later_by over q fuel) (less_by over q fuel) (Turn k) (Loop at a) s
    ≡ meets over q (later_by over q n) (less_by over q n) (Turn (k + 1)) (Loop at a) t
past_next over q at a fuel n k s t f e unmet is =
    let next : suc k ≡ k + 1 = omega arith in
    turn_goes over q at a (later_by over q fuel) (less_by over q fuel) k s e t unmet is
    ∙ ap (λ i. (less_by over q i).statement (Turn (suc k)) (Loop at a) t) f
    ∙ ap (λ j. meets over q (later_by over q n) (less_by over q n) (Turn j) (Loop at a) t) next

pub past_ends : (over : ℕ → Bool) (q : CsProgramTree) (at : Pos) (a : CsStmtTree) (fuel k : ℕ) (s t : State) → fuel ≡ 0 → over k ≡ false
    → comes_past over q fuel a s ≡ false → Normal t ≡ bounded_exec over q fuel a s
    → meets over q (later_by over q fuel) (less_by over q fuel) (Turn k) (Loop at a) s ≡ false
past_ends over q at a fuel k s t f e unmet is =
    turn_goes over q at a (later_by over q fuel) (less_by over q fuel) k s e t unmet is ∙ ap (λ i. (less_by over q i).statement (Turn (suc k)) (Loop at a) t) f

module _ (over : ℕ → Bool) (q : CsProgramTree) (all : CsStmtTrees) (fuel : ℕ) (from : Option Mark) (s : State) where
  behind_row : met_row over q fuel from all s ≡ false → met_by_gotos over q fuel from all s ≡ behind_goto (less_by over q fuel) all (row over q fuel from all s)
  behind_row unmet = rw unmet refl

  pub row_meets : met_row over q fuel from all s ≡ true → met_by_gotos over q fuel from all s ≡ true
  row_meets met = rw met refl

  pub row_stays : (o : Outcome) → met_row over q fuel from all s ≡ false → o ≡ row over q fuel from all s
      → behind_goto (less_by over q fuel) all o ≡ false → met_by_gotos over q fuel from all s ≡ false
  row_stays o unmet is out = behind_row unmet ∙ ap (behind_goto (less_by over q fuel) all) (sym is) ∙ out

  landed_past : (m : Less) (label : ℕ) (t : State) → has (AtLabel label) all ≡ true
      → behind_goto m all (Leaves (ByGoto label) t) ≡ m.items (AtLabel label) all t
  landed_past m label t e = rw e refl

  row_lands : (label : ℕ) (t : State) → met_row over q fuel from all s ≡ false → Leaves (ByGoto label) t ≡ row over q fuel from all s
      → has (AtLabel label) all ≡ true → met_by_gotos over q fuel from all s ≡ (less_by over q fuel).items (AtLabel label) all t
  row_lands label t unmet is e = behind_row unmet ∙ ap (behind_goto (less_by over q fuel) all) (sym is) ∙ landed_past (less_by over q fuel) label t e

  pub lands_past : (n label : ℕ) (t : State) → fuel ≡ suc n → met_row over q fuel from all s ≡ false → Leaves (ByGoto label) t ≡ row over q fuel from all s
      → has (AtLabel label) all ≡ true → met_by_gotos over q fuel from all s ≡ met_by_gotos over q n (Some (AtLabel label)) all t
  lands_past n label t f unmet is e = row_lands label t unmet is e ∙ ap (λ i. (less_by over q i).items (AtLabel label) all t) f

  pub lands_last : (label : ℕ) (t : State) → fuel ≡ 0 → met_row over q fuel from all s ≡ false → Leaves (ByGoto label) t ≡ row over q fuel from all s
      → has (AtLabel label) all ≡ true → met_by_gotos over q fuel from all s ≡ false
  lands_last label t f unmet is e = row_lands label t unmet is e ∙ ap (λ i. (less_by over q i).items (AtLabel label) all t) f

pub lands_back : (over : ℕ → Bool) (q : CsProgramTree) (all : CsStmtTrees) (fuel n : ℕ) (from : Option Mark) (s t : State) (label : ℕ) → fuel ≡ suc n
    → Leaves (ByGoto label) t ≡ row over q fuel from all s → has (AtLabel label) all ≡ true
    → catching over q fuel from all s ≡ catching over q n (Some (AtLabel label)) all t
lands_back over q all fuel n from s t label f is e =
    ap (λ m. catching over q m from all s) f
    ∙ lands over q all n from s t label (subst (λ m. Leaves (ByGoto label) t ≡ row over q m from all s) f is) e
