-- The cases of a switch: no two are equal, each fits the switch's type, and there is one default at most.
use Rattle.std.proofs.Common.{◌≡◌, ℕ, ◌+◌, ◌<◌, true, false, List, [], ◌∷◌, ◌++◌, length, get_or, refl, ap, sym, subst, ◌∙◌, arith}
use Rattle.std.specs.Prelude.{◌≢◌, ℤ, Bool, if◌then◌else◌, Option, None, Some, option_map, All, AllPairs, map, find}
use Rattle.std.specs.Ordering.{int_eq}
use Rattle.std.proofs.lemmas.Bool.{false≢true}
use Rattle.std.proofs.lemmas.Bool.Decides.{Decides-int_eq}
use Rattle.std.proofs.lemmas.Option.{none-some, same_Some}
use Rattle.std.proofs.lemmas.List.{append-nil, append_assoc}
use Rattle.std.proofs.lemmas.List.Elements.{All-nil, All-cons, All-append, All-get_or}
use Rattle.std.proofs.lemmas.List.Quantifiers.{all_pairs_push}
use Rattle.c_syntax_written.specs.declared.place.Pos.{Pos}
use Rattle.c_syntax_written.specs.declared.int_type.IntType.{IntType}
use Rattle.c_syntax_written.specs.Integer.{wrapped, HasNumber}
use Rattle.c_syntax_written.specs.WrittenFile.{ForStartTree, StmtTree, BlockItemTrees}
use Rattle.c_syntax.specs.TypedStmt.{TStmtTree, TStmtTrees, Case, Default, Label, none}
use Rattle.c_layout.specs.Jumps.{cases_among, defaults_among}
use Rattle.c_values.proofs.Settled.{wrapped_is_of}
use Rattle.c_typing.specs.World.{World, CaseAt}
use Rattle.c_typing.specs.Names.{opened}
use Rattle.c_typing.specs.Context.{Context}
use Rattle.c_typing.specs.Decls.{Made, both}
use Rattle.c_typing.specs.Stmts.{one, case_before}
use Rattle.c_typing.proofs.Changes.{Any}
use Rattle.c_typing.proofs.Good.{Good}
use Rattle.c_typing.proofs.Reaches as reaches
use Rattle.c_typing.proofs.Reaches.{enters}
use Rattle.c_typing_laws.specs.StmtSteps.{with_label, with_case, with_default, MakesStart, nothing, value, declares, MakesStmt, label, case, default, block, empty, expression, if_alone, if_else, switch_block, switch_one, while, do_while, for, goto, continue, break, return_bare, return_value, MakesItems, no_items, declaration, statement}
use Rattle.c_typing_laws.proofs.Reached.{good_by, value_reach, may_condition_reach, may_step_reach, start_reach, decl_reach, stmt_reach}
use Rattle.c_typing_laws.proofs.StepSteady.{Steady, value_steady, may_condition_steady, may_step_steady, decl_steady}
use Rattle.c_typing_laws.proofs.Heads.{case_of, default_of, cases_more, defaults_more, cases_both, defaults_both, head_decl, head_cases, head_defaults}

abbrev pub values_of : List CaseAt → List ℤ
values_of list = map (λ c. c.value) list

abbrev pub Distinct : List ℤ → Type 0
Distinct values = AllPairs (λ a b. a ≢ b) values

abbrev pub count_default : Option Pos → ℕ
count_default None = 0
count_default (Some at) = 1

-- the cases and the default that a part adds
pub record Cased (around : Context) (w v : World) (values : List ℤ) (defaults : ℕ) : Type 0 where
  pub list : List CaseAt
  pub cases : v.cases ≡ w.cases ++ list
  pub values_are : values_of list ≡ values
  pub default_is : count_default v.default ≡ count_default w.default + defaults
  pub quiet : around.switch ≡ None → (list ≡ []) × (v.default ≡ w.default)
  pub fit : (t : IntType) → around.switch ≡ Some t → All (HasNumber t) values
  pub distinct : Distinct (values_of w.cases) → Distinct (values_of v.cases)

nothing_cased : (around : Context) (w v : World) → v.cases ≡ w.cases → v.default ≡ w.default → Cased around w v [] 0
nothing_cased around w v c d = record {
  list = [];
  cases = c ∙ sym (append-nil w.cases);
  values_are = refl;
  default_is = ap count_default d ∙ omega arith;
  quiet = λ e. (refl, d);
  fit = λ t e. All-nil (HasNumber t);
  distinct = λ h. subst (λ l. Distinct (values_of l)) (sym c) h;
}

pub steady_cased : (around : Context) (w v : World) → Steady w v → Cased around w v [] 0
steady_cased around w v s = nothing_cased around w v s.cases s.default

values_append : (xs ys : List CaseAt) → values_of (xs ++ ys) ≡ values_of xs ++ values_of ys
values_append [] ys = refl
values_append (x ∷ xs) ys = ap (λ l. x.value ∷ l) (values_append xs ys)

cased_then : {around : Context} {u v w : World} {a b : List ℤ} {m n : ℕ} → Cased around u v a m → Cased around v w b n → Cased around u w (a ++ b) (m + n)
cased_then {around} {u} {v} {w} {a} {b} {m} {n} p q = record {
  list = p.list ++ q.list;
  cases = q.cases ∙ ap (λ l. l ++ q.list) p.cases ∙ append_assoc u.cases p.list q.list;
  values_are = values_append p.list q.list ∙ ap (λ l. l ++ values_of q.list) p.values_are ∙ ap (λ l. a ++ l) q.values_are;
  default_is = (let x = p.default_is in let y = q.default_is in omega (arith, x, y));
  quiet = λ e. let x = p.quiet e in let y = q.quiet e in (ap (λ l. l ++ q.list) x.0 ∙ y.0, y.1 ∙ x.1);
  fit = λ t e. All-append (HasNumber t) a b (p.fit t e) (q.fit t e);
  distinct = λ h. q.distinct (p.distinct h);
}

cased_as : {around : Context} {u v : World} {a b : List ℤ} {m n : ℕ} → a ≡ b → m ≡ n → Cased around u v a m → Cased around u v b n
cased_as {around} {u} {v} {a} {b} {m} {n} e f p = subst (λ x. Cased around u v x n) e (subst (λ k. Cased around u v a k) f p)

-- ---- a case and a default

not_before : (n : ℤ) (list : List CaseAt) → find (λ c. int_eq c.value n) list ≡ None → All (λ v. v ≡ n → ⊥) (values_of list)
not_before n [] e = All-nil (λ v. v ≡ n → ⊥)
not_before n (x ∷ xs) e = by (int_eq x.value n) refl e (not_before n xs)
  where
    by : (b : Bool) → int_eq x.value n ≡ b → (if b then Some x else find (λ c. int_eq c.value n) xs) ≡ None → (find (λ c. int_eq c.value n) xs ≡ None → All (λ v. v ≡ n → ⊥) (values_of xs))
        → All (λ v. v ≡ n → ⊥) (values_of (x ∷ xs))
    by true q h again = absurd (none-some x (sym h))
    by false q h again = All-cons (λ v. v ≡ n → ⊥) x.value (values_of xs) (λ s. false≢true (sym q ∙ (Decides-int_eq x.value n).1 s)) (again h)

nothing_found : (o : Option CaseAt) → option_map (λ c. c.pos) o ≡ None → o ≡ None
nothing_found None e = refl
nothing_found (Some x) e = absurd (none-some x.pos (sym e))

all_at : {A : Type 0} (P : A → Type 0) (xs : List A) → All P xs → (k : ℕ) (d : A) → k < length xs → P (get_or xs k d)
all_at P xs all k d h = All-get_or P xs k d h all

case_cased : (around : Context) (w : World) (at : Pos) (t : IntType) (n : ℤ) → around.switch ≡ Some t → case_before w (wrapped t n) ≡ None → Cased around w (with_case w at (wrapped t n)) (wrapped t n ∷ []) 0
case_cased around w at t n e before =
    let value = wrapped t n in
    let new = not_before value w.cases (nothing_found (find (λ c. int_eq c.value value) w.cases) before) in record {
      list = record { value = value; pos = at } ∷ [];
      cases = refl;
      values_are = refl;
      default_is = omega arith;
      quiet = λ q. absurd (none-some t (sym q ∙ e));
      fit = λ u q. subst (λ v. All (HasNumber v) (value ∷ [])) (same_Some t u (sym e ∙ q)) (All-cons (HasNumber t) value [] (wrapped_is_of t n) (All-nil (HasNumber t)));
      distinct = λ h. subst Distinct (sym (values_append w.cases (record { value = value; pos = at } ∷ [])))
          (all_pairs_push (λ a b. a ≢ b) (values_of w.cases) value h (all_at (λ v. v ≡ value → ⊥) (values_of w.cases) new));
    }

default_cased : (around : Context) (w : World) (at : Pos) (t : IntType) → around.switch ≡ Some t → w.default ≡ None → Cased around w (with_default w at) [] 1
default_cased around w at t e before = record {
  list = [];
  cases = sym (append-nil w.cases);
  values_are = refl;
  default_is = (let z = ap count_default before in omega (arith, z));
  quiet = λ q. absurd (none-some t (sym q ∙ e));
  fit = λ u q. All-nil (HasNumber u);
  distinct = λ h. h;
}

-- ---- statements

abbrev SameCases : World → World → Type 0
SameCases w v = (v.cases ≡ w.cases) × (v.default ≡ w.default)

-- a statement that is no case and no default
plain_stmt : (around : Context) (w v : World) (s : TStmtTree) → case_of s ≡ [] → default_of s ≡ 0 → SameCases w v → Cased around w v (cases_among (one s)) (defaults_among (one s))
unfolding cases_among defaults_among
plain_stmt around w v s c d same =
    cased_as (sym (cases_more s none ∙ ap (λ l. l ++ []) c)) (let e = defaults_more s none in omega (arith, e, d)) (nothing_cased around w v same.0 same.1)

same_steady : {w v : World} → Steady w v → SameCases w v
same_steady s = (s.cases, s.default)

-- a part in a scope of its own, where no case of the switch around may stand
shut_same : {inner : Context} {w v : World} {a : List ℤ} {m : ℕ} → inner.switch ≡ None → Cased inner w v a m → SameCases w v
shut_same {w = w} e p = let q = p.quiet e in (p.cases ∙ ap (λ l. w.cases ++ l) q.0 ∙ append-nil w.cases, q.1)

same_then : (u v w : World) → SameCases u v → SameCases v w → SameCases u w
same_then u v w p q = (q.0 ∙ p.0, q.1 ∙ p.1)

start_same : {w v : World} {around : Context} {s : ForStartTree} {made : Made} → Good w → MakesStart w around s made v → SameCases w v
start_same good nothing = (refl, refl)
start_same good (value p) = same_steady (value_steady good p)
start_same good (declares d) = same_steady (decl_steady good d)

-- the items of a list, behind others
pub record CasedItems (around : Context) (done made : TStmtTrees) (w v : World) : Type 0 where
  pub values : List ℤ
  pub defaults : ℕ
  pub cased : Cased around w v values defaults
  pub cases_are : cases_among made ≡ cases_among done ++ values
  pub defaults_are : defaults_among made ≡ defaults_among done + defaults

items_more :
    {around : Context} {w u v : World} (done items made : TStmtTrees) {a : List ℤ} {m : ℕ} → cases_among items ≡ a → defaults_among items ≡ m → Cased around w u a m → CasedItems around (both done items) made u v
    → CasedItems around done made w v
items_more done items made {a} {m} e f p q = record {
  values = a ++ q.values;
  defaults = m + q.defaults;
  cased = cased_then p q.cased;
  cases_are = q.cases_are ∙ ap (λ l. l ++ q.values) (cases_both done items ∙ ap (λ l. cases_among done ++ l) e) ∙ append_assoc (cases_among done) a q.values;
  defaults_are = (let x = q.defaults_are in let y = defaults_both done items in omega (arith, x, y, f));
}

mutual
  pub stmt_cased :
      {w v : World} {around : Context} {s : StmtTree} {items : TStmtTrees} → Good w → MakesStmt w around s items v → Cased around w v (cases_among items) (defaults_among items)
  stmt_cased {w = w} {around = around} good (label {at = at} {name = name} {items = items} q) =
      cased_as (sym (cases_more (Label at (length w.labels)) items)) (sym (defaults_more (Label at (length w.labels)) items))
      (cased_then (nothing_cased around w (with_label w at name) refl refl) (stmt_cased (good_by good (reaches.labelled w _)) q))
  stmt_cased {w = w} {around = around} good (case {u = u} {at = at} {items = items} t n q e d s) =
      let r = value_reach good q in
      let p = value_steady good q in
      cased_as (sym (cases_more (Case at (wrapped t n)) items)) (let z = defaults_more (Case at (wrapped t n)) items in omega (arith, z))
      (cased_then (nothing_cased around w u p.cases p.default) (cased_then (case_cased around u at t n e d) (stmt_cased (good_by good (reaches.after _ _ _ r (reaches.cased u _ u.default))) s)))
  stmt_cased {w = w} {around = around} good (default {at = at} {items = items} t e d q) =
      cased_as (sym (cases_more (Default at) items)) (sym (defaults_more (Default at) items))
      (cased_then (default_cased around w at t e d) (stmt_cased (good_by good (reaches.cased w w.cases (Some at))) q))
  stmt_cased {w = w} {around = around} good (block {v = v} q) = plain_stmt around w _ _ refl refl (shut_same refl (items_cased (enters good) q).cased)
  stmt_cased {w = w} {around = around} good empty = plain_stmt around w w _ refl refl (refl, refl)
  stmt_cased {w = w} {around = around} good (expression {v = v} q) = plain_stmt around w v _ refl refl (same_steady (value_steady good q))
  stmt_cased {w = w} {around = around} good (if_alone {u = u} {v = v} q s) =
      let good2 = good_by (enters good) (value_reach {may = Any} (enters good) q.value) in
      plain_stmt around w _ _ refl refl (same_then w u v (same_steady (value_steady (enters good) q.value)) (shut_same refl (stmt_cased (enters good2) s)))
  stmt_cased {w = w} {around = around} good (if_else {u = u} {v = v} {x = x} q s t) =
      let good2 = good_by (enters good) (value_reach {may = Any} (enters good) q.value) in
      let good3 = good_by {may = Any} good2 (reaches.scoped u v (stmt_reach (enters good2) s)) in
      plain_stmt around w _ _ refl refl
      (same_then w u x (same_steady (value_steady (enters good) q.value)) (same_then u v x (shut_same refl (stmt_cased (enters good2) s)) (shut_same refl (stmt_cased (enters good3) t))))
  stmt_cased {w = w} {around = around} good (switch_block q s) = plain_stmt around w _ _ refl refl (refl, refl)
  stmt_cased {w = w} {around = around} good (switch_one q s) = plain_stmt around w _ _ refl refl (refl, refl)
  stmt_cased {w = w} {around = around} good (while {u = u} {v = v} q s) =
      let good2 = good_by (enters good) (value_reach {may = Any} (enters good) q.value) in
      plain_stmt around w _ _ refl refl (same_then w u v (same_steady (value_steady (enters good) q.value)) (shut_same refl (stmt_cased (enters good2) s)))
  stmt_cased {w = w} {around = around} good (do_while {u = u} {v = v} s q) =
      let good2 = good_by {may = Any} (enters good) (reaches.scoped (opened w) u (stmt_reach (enters (enters good)) s)) in
      plain_stmt around w _ _ refl refl (same_then w u v (shut_same refl (stmt_cased (enters (enters good)) s)) (same_steady (value_steady good2 q.value)))
  stmt_cased {w = w} {around = around} good (for {u = u} {v = v} {x = x} {y = y} s c n q) =
      let r = start_reach (enters good) s in
      let good2 = good_by (enters good) r in
      let good3 = good_by good2 (may_condition_reach {may = Any} good2 c) in
      let good4 = good_by good3 (may_step_reach {may = Any} good3 n) in
      plain_stmt around w _ _ refl refl
      (same_then w u y (start_same (enters good) s) (same_then u v y (same_steady (may_condition_steady good2 c)) (same_then v x y (same_steady (may_step_steady good3 n)) (shut_same refl (stmt_cased (enters good4) q)))))
  stmt_cased {w = w} {around = around} good (goto e) = plain_stmt around w w _ refl refl (refl, refl)
  stmt_cased {w = w} {around = around} good (continue e) = plain_stmt around w w _ refl refl (refl, refl)
  stmt_cased {w = w} {around = around} good (break e) = plain_stmt around w w _ refl refl (refl, refl)
  stmt_cased {w = w} {around = around} good (return_bare e) = plain_stmt around w w _ refl refl (refl, refl)
  stmt_cased {w = w} {around = around} good (return_value {v = v} q e) = plain_stmt around w v _ refl refl (same_steady (value_steady good q))

  pub items_cased :
      {w v : World} {around : Context} {done made : Made} {items : BlockItemTrees} → Good w → MakesItems w around done items made v → CasedItems around done.items made.items w v
  items_cased {w = w} {around = around} {done = done} good no_items = record {
    values = [];
    defaults = 0;
    cased = nothing_cased around w w refl refl;
    cases_are = sym (append-nil (cases_among done.items));
    defaults_are = omega arith;
  }
  items_cased {around = around} {done = done} {made = all} good (declaration {u = u} {made = made} d q) =
      items_more done.items made.items all.items (head_cases made.items (head_decl d)) (head_defaults made.items (head_decl d)) (steady_cased around _ u (decl_steady good d))
      (items_cased (good_by good (decl_reach good d)) q)
  items_cased {done = done} {made = all} good (statement {items = items} s q) =
      items_more done.items items all.items refl refl (stmt_cased good s) (items_cased (good_by good (stmt_reach good s)) q)
