-- How results are passed on.
use Rattle.std.proofs.Common.{◌≡◌, sym, ap, ◌∙◌, subst}
use Rattle.std.specs.Prelude.{IfSome, Result, Ok, Err}
use Rattle.std.proofs.lemmas.Option.{IfSome_then}
use Rattle.c_syntax_written.specs.WrittenFile.{StmtTree}
use Rattle.c_typing.specs.Context.{Context}
use Rattle.c_typing.specs.Decls.{Made}
use Rattle.c_typing.specs.World.{World, Outcome, Typed, Refused}
use Rattle.c_check_names.specs.declared.type_error.TypeError.{TypeError}
use Rattle.c_check_names.specs.Views.{Answers, refusal_of}
use Rattle.c_check_stmts.specs.Forms.{Behind}

-- a result that is an outcome of one kind is one of another
pub by : {A V : Type 0} (P Q : Outcome V → Type 0) (view : A → V) (w : World) (res : Result A TypeError) → Answers P view w res
    → ((o : Outcome V) → P o → Q o) → Answers Q view w res
by P Q view w (Ok a) p f = f _ p
by P Q view w (Err e) p f = IfSome_then (refusal_of e) p (λ r. f (Refused r))

-- what is typed, as another tells it
pub typed_so : {V : Type 0} (P : Outcome V → Type 0) (a b : V) (w v : World) → a ≡ b → w ≡ v → P (Typed b v) → P (Typed a w)
typed_so P a b w v e f p = subst P (sym (ap (λ x. Typed x w) e ∙ ap (Typed b) f)) p

-- a statement of this form
pub behind_so : {A : Type 0} (w : World) (around : Context) (done : Made) (t u : StmtTree) (view : A → Made) (v : World) (res : Result A TypeError) → t ≡ u
    → Answers (Behind w around done u) view v res → Answers (Behind w around done t) view v res
behind_so w around done t u view v res e p = subst (λ s. Answers (Behind w around done s) view v res) (sym e) p

-- what is typed, if the result is a value
pub typed_in : {A V : Type 0} (P : Outcome V → Type 0) (view : A → V) (w : World) (res : Result A TypeError) (a : A) → res ≡ Ok a → Answers P view w res
    → P (Typed (view a) w)
typed_in P view w res a e p = subst (λ r. Answers P view w r) e p

-- what is refused, if it is an error
pub refused_in : {A V : Type 0} (P : Outcome V → Type 0) (view : A → V) (w : World) (res : Result A TypeError) (e : TypeError) → res ≡ Err e
    → Answers P view w res → IfSome (refusal_of e) (λ r. P (Refused r))
refused_in P view w res error e p = subst (λ r. Answers P view w r) e p
