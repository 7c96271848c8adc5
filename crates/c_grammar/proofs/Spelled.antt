-- What a part or a production leaves is the end of the tokens; which of them can read nothing.
use Rattle.std.proofs.Common.{◌≡◌, refl, sym, ◌∙◌, ap, subst, ◌≤◌, Bool, true, false, not, ◌||◌, List, [], ◌∷◌, ◌++◌, length, length-append, append_assoc, true≢false, arith}
use Rattle.c_syntax_written.specs.declared.token.Placed.{Placed}
use Rattle.c_grammar.specs.declared.parts.Level.{Level}
use Rattle.c_grammar.specs.declared.parts.Level.TheVariants.{Commas}
use Rattle.c_grammar.specs.declared.parts.Role.{Role}
use Rattle.c_grammar.specs.declared.parts.Role.TheVariants.{Naming}
use Rattle.c_grammar.specs.Parts.{Scene, Part, AnExpr, Outers, Value}
use Rattle.c_grammar.specs.Process.{Process, give, token, part, only}
use Rattle.c_grammar.specs.ExprRules.{ExprRule, operand}
use Rattle.c_grammar.specs.ExprRules as exprs
use Rattle.c_grammar.specs.TypeRules.{TypeRule}
use Rattle.c_grammar.specs.TypeRules as types
use Rattle.c_grammar.specs.FileRules.{FileRule}
use Rattle.c_grammar.specs.FileRules as files
use Rattle.c_grammar.specs.Grammar.{Produces, expr_rule, type_rule, file_rule, Derives, by, Spells, ended, token_then, part_then, where_so}
use Rattle.c_grammar.specs.Refused.{may_be_empty, may_omit}

-- the second tokens are the end of the first
abbrev pub Leaves : List Placed → List Placed → Type 0
Leaves ts rest = (front : List Placed) × (ts ≡ front ++ rest)

further : (ts mid rest : List Placed) → Leaves ts mid → Leaves mid rest → Leaves ts rest
further ts mid rest a b = (a.0 ++ b.0, a.1 ∙ (ap (λ v. a.0 ++ v) b.1 ∙ sym (append_assoc a.0 b.0 rest)))

mutual
  pub derives_leaves : {w : Scene} {p : Part} {ts rest : List Placed} {v : Value p} → Derives w p ts rest v → Leaves ts rest
  derives_leaves (by rule s) = spells_leaves s

  pub spells_leaves : {w : Scene} {p : Part} {q : Process (Value p)} {ts rest : List Placed} {v : Value p} → Spells w p q ts rest v → Leaves ts rest
  spells_leaves ended = ([], refl)
  spells_leaves (token_then {t} fits s) = (t ∷ (spells_leaves s).0, ap (λ v. t ∷ v) (spells_leaves s).1)
  spells_leaves (part_then {ts} {mid} {rest} d s) = further ts mid rest (derives_leaves d) (spells_leaves s)
  spells_leaves (where_so e s) = spells_leaves s

shorter : (ts rest : List Placed) → Leaves ts rest → length rest ≤ length ts
shorter ts rest (front, e) = omega (arith, ap length e, length-append front rest)

no_token : (t : Placed) (ts rest : List Placed) → Leaves ts rest → t ∷ ts ≡ rest → ⊥
no_token t ts rest l e = omega (arith, ap length e, shorter ts rest l)

same_end : (ts mid rest : List Placed) → Leaves ts mid → Leaves mid rest → ts ≡ rest → ts ≡ mid
same_end ts mid rest ([], e) b f = e
same_end ts mid rest (x ∷ front, e) b f = absurd (omega (arith, ap length e, length-append front mid, shorter mid rest b, ap length f))

abbrev is_outers : Part → Bool
is_outers (Outers before) = true
is_outers _ = false

-- the part may have no token, before another or at the end
abbrev pub can_be_empty : Part → Bool
can_be_empty p = may_be_empty p || is_outers p

-- the process reads a token in any case
abbrev pub reads : {A : Type 0} → Process A → Bool
reads (give v) = false
reads (token n c k) = true
reads (part n s i k) = not (can_be_empty i)
reads (only f q) = reads q

operand_reads : (l : Level) → can_be_empty (AnExpr (operand l)) ≡ false
operand_reads Commas = refl
operand_reads _ = refl

role_reads : (r : Role) → (not (may_omit r || false) || (may_omit r || false)) ≡ true
role_reads Naming = refl
role_reads _ = refl

expr_reads : {w : Scene} {p : Part} {q : Process (Value p)} → ExprRule w p q → (reads q || can_be_empty p) ≡ true
expr_reads (exprs.run {l}) = ap (λ b. not b || false) (operand_reads l)
expr_reads _ = refl

type_reads : {w : Scene} {p : Part} {q : Process (Value p)} → TypeRule w p q → (reads q || can_be_empty p) ≡ true
type_reads (types.pointed {r}) = role_reads r
type_reads (types.direct {r}) = role_reads r
type_reads (types.no_name types.of_parameter) = refl
type_reads (types.no_name types.of_type_name) = refl
type_reads _ = refl

file_reads : {w : Scene} {p : Part} {q : Process (Value p)} → FileRule w p q → (reads q || can_be_empty p) ≡ true
file_reads files.value = refl
file_reads _ = refl

rule_reads : {w : Scene} {p : Part} {q : Process (Value p)} → Produces w p q → (reads q || can_be_empty p) ≡ true
rule_reads (expr_rule r) = expr_reads r
rule_reads (type_rule r) = type_reads r
rule_reads (file_rule r) = file_reads r

second : (a b : Bool) → (a || b) ≡ true → a ≡ false → b ≡ true
second true b h e = absurd (true≢false e)
second false b h e = h

mutual
  pub derives_none : {w : Scene} {p : Part} {ts rest : List Placed} {v : Value p} → Derives w p ts rest v → ts ≡ rest → can_be_empty p ≡ true
  derives_none (by {p} {q} rule s) e = second (reads q) (can_be_empty p) (rule_reads rule) (spells_none s e)

  pub spells_none : {w : Scene} {p : Part} {q : Process (Value p)} {ts rest : List Placed} {v : Value p} → Spells w p q ts rest v → ts ≡ rest → reads q ≡ false
  spells_none ended e = refl
  spells_none (token_then {t} {ts} {rest} fits s) e = absurd (no_token t ts rest (spells_leaves s) e)
  spells_none (part_then {ts} {mid} {rest} d s) e = ap not (derives_none d (same_end ts mid rest (derives_leaves d) (spells_leaves s) e))
  spells_none (where_so f s) e = spells_none s e

-- a production that reads a token leaves fewer
pub no_spelling : {A : Type 0} {w : Scene} {p : Part} {q : Process (Value p)} {ts : List Placed} {v : Value p} → reads q ≡ true → Spells w p q ts ts v → A
no_spelling h s = absurd (true≢false (sym h ∙ spells_none s refl))

-- What is known of a process that reads nothing: it gives the value, or goes on behind a part that reads nothing.
abbrev pub Spelled : Scene → (p : Part) → Process (Value p) → List Placed → Value p → Type 0
Spelled w p (give a) ts v = a ≡ v
Spelled w p (token n c k) ts v = ⊥
Spelled w p (part n s i k) ts v = (a : Value i) × Derives s i ts ts a × Spells w p (k a) ts ts v
Spelled w p (only f q) ts v = (f ts ≡ true) × Spells w p q ts ts v

spelled_at : {w : Scene} {p : Part} {q : Process (Value p)} {ts rest : List Placed} {v : Value p} → Spells w p q ts rest v → ts ≡ rest → Spelled w p q ts v
spelled_at ended e = refl
spelled_at (token_then {t} {ts} {rest} fits s) e = no_token t ts rest (spells_leaves s) e
spelled_at (part_then {w} {s} {p} {i} {k} {a} {ts} {mid} {rest} {v} d b) e =
    let f : ts ≡ mid = same_end ts mid rest (derives_leaves d) (spells_leaves b) e in
    (a, subst (λ m. Derives s i ts m a) (sym f) d, subst (λ m. Spells w p (k a) m ts v) (sym f) (subst (λ r. Spells w p (k a) mid r v) (sym e) b))
spelled_at (where_so {w} {p} {q} {ts} {v} f s) e = (f, subst (λ r. Spells w p q ts r v) (sym e) s)

pub spelled : {w : Scene} {p : Part} {q : Process (Value p)} {ts : List Placed} {v : Value p} → Spells w p q ts ts v → Spelled w p q ts v
spelled s = spelled_at s refl
