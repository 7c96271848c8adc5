-- What was made of a form is what the production asks for.
use Rattle.std.proofs.Common.{◌≡◌, refl, sym, subst, ℕ, ◌+◌, true, List, Bor}
use Rattle.std.specs.Prelude.{Result, Ok, Err, IfOk}
use Rattle.std.specs.declared.alloc.AllocError.{AllocError}
use Rattle.std.specs.declared.alloc.Global.{Global}
use Rattle.std.specs.declared.boxed.Box.{Box}
use Rattle.c_syntax_written.specs.declared.token.Placed.{Placed}
use Rattle.c_syntax_written.specs.declared.written.Expr.{Expr}
use Rattle.c_syntax_written.specs.Written.{DeclaratorTree, ExprTree}
use Rattle.c_syntax_written.specs.declared.token.Punctuator.TheVariants as signs
use Rattle.c_grammar.specs.declared.parts.Closing.{Closing}
use Rattle.c_grammar.specs.Parts.{Scene, Close, Part, Value, ExprPart, AnExpr, Suffixes, ADeclarator, GroupEnd}
use Rattle.c_grammar.specs.declared.class.Class.{Class}
use Rattle.c_grammar.specs.declared.class.Class.TheVariants.{Sign as sign}
use Rattle.c_grammar.specs.Classes.{closing_sign}
use Rattle.c_grammar.specs.Grammar.{type_rule}
use Rattle.c_grammar.specs.Made.{is_given}
use Rattle.c_grammar.specs.TypeRules as types
use Rattle.c_grammar.specs.Process.{Process, give, part, token}
use Rattle.c_grammar.specs.Refused.{Why}
use Rattle.c_grammar.specs.Descent.{Outcome, Done, Stop, Goes, Follows, goes_on, is_done, passes, stops}
use Rattle.c_parser_steps.specs.declared.fault.Fault.{Fault}
use Rattle.c_parser_steps.specs.Answers.{Halts, no_memory, Gives, given, halted, Steps, stepped, stalled}
use Rattle.c_parser_steps.specs.Views.{boxed_expr}
use Rattle.c_parser_steps.proofs.Steps.{by, done, halts, not_shut, refuse, shut, take}
use Rattle.c_parser_steps.proofs.Last.{same, last_inside}
use Rattle.c_parser_leaves.specs.Ends.{Hands, handed, unmade, Closes, closed, unclosed}
use Rattle.c_parser_leaves.proofs.ExprSteps.{suffixes_at}

-- it was made behind the last token
pub made_so : {A V : Type 0} {goes : Outcome V → Type 0} {view : A → V} (v : V) {ts : List Placed} {m : Result A AllocError} {r : Result (A × Bor (List Placed)) Fault} → goes (Done v ts) → IfOk m (λ a. view a ≡ v) → Hands ts m r → Gives goes view r
made_so {goes = goes} {view = view} v {ts = ts} g h (handed {a = a} e) = given (subst (λ t. goes (Done (view a) t)) (sym e) (subst (λ x. goes (Done x ts)) (sym h) g))
made_so v g h unmade = halted no_memory

-- a longer postfix form was made
pub longer_so : {goes : Outcome ExprTree → Type 0} {v : ExprTree} (d : ℕ) {w : Scene} {ts : List Placed} {m : Result (Box Expr Global) AllocError} {r : Result (Box Expr Global × Bor (List Placed)) Fault} → ((o : Outcome ExprTree) → Goes (d + 1) w (AnExpr (Suffixes v)) ts o → goes o) → IfOk m (λ a. boxed_expr a ≡ v) → Hands ts m r → Steps goes (λ e rest o. Goes (d + 1) w (AnExpr (Suffixes (boxed_expr e))) rest o) r
longer_so {v = v} d {w = w} f h (handed e) = stepped (λ o g. f o (subst (λ t. Goes (d + 1) w (AnExpr (Suffixes v)) t o) e (suffixes_at h g)))
longer_so d f h unmade = stalled no_memory

-- its last token ends the production
pub closed_so : {A : Type 0} {p : Part} {goes : Outcome (Value p) → Type 0} {view : A → Value p} {v : Value p} {d : ℕ} {w : Scene} {c : Class} {ts : List Placed} {m : Result A AllocError} {r : Result (A × Bor (List Placed)) Fault} → ((o : Outcome (Value p)) → Follows d w p (token 0 c (λ t. give v)) ts o → goes o) → IfOk m (λ a. view a ≡ v) → Closes d w c ts m r → Gives goes view r
closed_so {p = p} {view = view} {v = v} {d = d} {w = w} f h (closed t (handed {a = a} {rest = rest} e)) = given (f _ (take t (subst (λ s. Follows d w p (give v) s (Done (view a) rest.now)) e (done h))))
closed_so f h (closed t unmade) = halted no_memory
closed_so f h (unclosed t) = halted (halts (refuse t) (λ why rest g. f _ (g _ _)))

-- so does what closes a form
pub shut_so : {A : Type 0} {p : Part} {goes : Outcome (Value p) → Type 0} {view : A → Value p} {v : Value p} {d n : ℕ} {w : Scene} {z : Closing} {ts : List Placed} {m : Result A AllocError} {r : Result (A × Bor (List Placed)) Fault} → ((o : Outcome (Value p)) → Follows d w p (part n w (Close z) (λ t. give v)) ts o → goes o) → IfOk m (λ a. view a ≡ v) → Closes (d + n) w (sign (closing_sign z)) ts m r → Gives goes view r
shut_so {p = p} {view = view} {v = v} {d = d} {w = w} f h (closed t (handed {a = a} {rest = rest} e)) = given (f _ (shut t (subst (λ s. Follows d w p (give v) s (Done (view a) rest.now)) e (done h))))
shut_so f h (closed t unmade) = halted no_memory
shut_so f h (unclosed t) = halted (halts (not_shut t) (λ why rest g. f _ (g _ _)))

-- behind the parenthesis that closes a declarator
pub behind_group : {A : Type 0} {p : Part} {V : Type 0} (view : A → V) {v : V} {d : ℕ} {w : Scene} {inner : DeclaratorTree} {k : DeclaratorTree → Process (Value p)} {ts : List Placed} {m : Result A AllocError} {x : A × Bor (List Placed)} {o : Outcome (Value p)} → is_given inner ≡ true → Closes (d + 1) w (sign signs.RightParenthesis) ts m (Ok x) → IfOk m (λ a. view a ≡ v) → (view x.0 ≡ v → Follows d w p (k inner) x.1.now o) → Follows d w p (part 1 w (ADeclarator (GroupEnd inner)) k) ts o
behind_group {p = p} view {d = d} {w = w} {inner = inner} {k = k} {o = o} g (closed t (handed e)) h f = goes_on (by (type_rule types.group_end) refl refl (passes g (take t is_done))) (subst (λ s. Follows d w p (k inner) s o) e (f h))

-- that parenthesis was not taken
pub not_grouped : {A : Type 0} {d : ℕ} {w : Scene} {inner : DeclaratorTree} {ts : List Placed} {m : Result A AllocError} {f : Fault} → is_given inner ≡ true → Closes (d + 1) w (sign signs.RightParenthesis) ts m (Err f) → Halts (λ why rest. (p : Part) (k : DeclaratorTree → Process (Value p)) → Follows d w p (part 1 w (ADeclarator (GroupEnd inner)) k) ts (Stop why rest)) f
not_grouped g (closed t unmade) = no_memory
not_grouped g (unclosed t) = halts (refuse t) (λ why rest h p k. stops (by (type_rule types.group_end) refl refl (passes g (h _ _))))

-- the same of a longer postfix form
pub longer_shut : {x : ExprPart} {goes : Outcome ExprTree → Type 0} {v : ExprTree} (d : ℕ) {n : ℕ} {w : Scene} {z : Closing} {ts : List Placed} {m : Result (Box Expr Global) AllocError} {r : Result (Box Expr Global × Bor (List Placed)) Fault} → ((o : Outcome ExprTree) → Follows d w (AnExpr x) (part n w (Close z) (λ t. part 1 w (AnExpr (Suffixes v)) give)) ts o → goes o) → IfOk m (λ a. boxed_expr a ≡ v) → Closes (d + n) w (sign (closing_sign z)) ts m r → Steps goes (λ e rest o. Goes (d + 1) w (AnExpr (Suffixes (boxed_expr e))) rest o) r
longer_shut {x = x} {v = v} d {w = w} f h (closed t (handed {rest = rest} e)) = stepped (λ o g. f o (shut t (subst (λ s. Follows d w (AnExpr x) (part 1 w (AnExpr (Suffixes v)) give) s o) e (last_inside same o (suffixes_at h g)))))
longer_shut d f h (closed t unmade) = stalled no_memory
longer_shut d f h (unclosed t) = stalled (halts (not_shut t) (λ why rest g. f _ (g _ _)))

-- what a part gives is one step of the form that goes on behind it
pub led : {A V W : Type 0} {goes : Outcome V → Type 0} {others : Outcome W → Type 0} {next : A → List Placed → Outcome V → Type 0} {view : A → W} {r : Result (A × Bor (List Placed)) Fault} → ((a : A) (rest : List Placed) → others (Done (view a) rest) → (o : Outcome V) → next a rest o → goes o) → ((why : Why) (rest : List Placed) → others (Stop why rest) → goes (Stop why rest)) → Gives others view r → Steps goes next r
led f g (given {x = x} h) = stepped (λ o k. f x.0 x.1.now h o k)
led f g (halted h) = stalled (halts h g)
