-- Initial values by the numbers of their objects.
use Rattle.std.proofs.Common.{◌≡◌, ◌≢◌, ℕ, ◌+◌, ◌<◌, ◌≤◌, List, [], ◌∷◌, ◌++◌, refl, sym, ap, ◌∙◌, subst, length, map, drop, get_or, set, true, false, arith, zero, suc, add-one, drop-cons, get_or-set_same, get_or-set_other}
use Rattle.std.specs.Prelude.{Bool, ◌==◌, Option, Some, None, find, nat_lt, replicate, reverse, unwrap_or, if◌then◌else◌}
use Rattle.std.specs.Option.{option_or}
use Rattle.std.proofs.lemmas.Bool.{eq-eqb, ne_eqb, eqb-true, eqb-false, ltb-false}
use Rattle.std.proofs.lemmas.List.{reverse-append}
use Rattle.std.proofs.lemmas.List.Folds.{find-append}
use Rattle.c_syntax.specs.declared.program.Initial.{Initial}
use Rattle.c_syntax.specs.declared.program.InitByte.TheVariants.{Num}
use Rattle.c_syntax.specs.declared.types.Object.{Object}
use Rattle.c_syntax.specs.Types.{ObjectTree, object_tree}
use Rattle.c_typing.specs.File.{given_initial, initials_from}

-- the initial value that an object was given first
abbrev pub given_to : List Initial → ℕ → Option Initial
given_to given n = find (λ i. i.object == n) given

-- what a list has of an object, or else the table
abbrev pub found : List Initial → List (Option Initial) → ℕ → Option Initial
found left table n = option_or (given_to left n) (get_or table n None)

pub or_none : {A : Type 0} (x : Option A) → option_or x None ≡ x
or_none None = refl
or_none (Some x) = refl

or_or : {A : Type 0} (x y z : Option A) → option_or (option_or x y) z ≡ option_or x (option_or y z)
or_or None y z = refl
or_or (Some x) y z = refl

-- an object that the one value is not of
other_value : (x : Initial) (n : ℕ) → x.object ≢ n → given_to (x ∷ []) n ≡ None
other_value x n h = ap (λ b. if b then Some x else None) (ne_eqb x.object n h)

own_value : (x : Initial) (n : ℕ) → x.object ≡ n → given_to (x ∷ []) n ≡ Some x
own_value x n h = ap (λ b. if b then Some x else None) (eq-eqb x.object n h)

-- one value fewer is left, which the table has no place for
found_elsewhere : (left new : List Initial) (x : Initial) (table : List (Option Initial)) (n : ℕ) → left ≡ new ++ x ∷ [] → x.object ≢ n
    → found new table n ≡ found left table n
found_elsewhere left new x table n e h =
    sym (ap (λ l. found l table n) e ∙ ap (λ o. option_or o (get_or table n None)) (find-append (λ i. i.object == n) new (x ∷ [])
    ∙ ap (option_or (given_to new n)) (other_value x n h) ∙ or_none (given_to new n)))

found_beyond : (left new : List Initial) (x : Initial) (table : List (Option Initial)) (n : ℕ) → left ≡ new ++ x ∷ [] → n < length table
    → (x.object < length table → ⊥) → found new table n ≡ found left table n
found_beyond left new x table n e h k = found_elsewhere left new x table n e (λ same. k (subst (λ m. m < length table) (sym same) h))

-- and one that goes into the table
found_there : (left new : List Initial) (x : Initial) (table : List (Option Initial)) (n : ℕ) → left ≡ new ++ x ∷ [] → n < length table → x.object ≡ n
    → found new (set table x.object (Some x)) n ≡ found left table n
found_there left new x table n e h same =
    let put : get_or (set table n (Some x)) n None ≡ Some x = get_or-set_same table n (Some x) None h in
    ap (λ m. found new (set table m (Some x)) n) same ∙ ap (option_or (given_to new n)) put
    ∙ sym (ap (λ l. found l table n) e ∙ ap (λ o. option_or o (get_or table n None)) (find-append (λ i. i.object == n) new (x ∷ [])
    ∙ ap (option_or (given_to new n)) (own_value x n same)) ∙ or_or (given_to new n) (Some x) (get_or table n None))

found_by : (left new : List Initial) (x : Initial) (table : List (Option Initial)) (n : ℕ) → left ≡ new ++ x ∷ [] → n < length table
    → (b : Bool) → (x.object == n) ≡ b → found new (set table x.object (Some x)) n ≡ found left table n
found_by left new x table n e h true k = found_there left new x table n e h (eqb-true x.object n k)
found_by left new x table n e h false k =
    let apart : x.object ≢ n = eqb-false x.object n k in
    ap (option_or (given_to new n)) (get_or-set_other table x.object n (Some x) None (λ e. apart (sym e))) ∙ found_elsewhere left new x table n e apart

found_put : (left new : List Initial) (x : Initial) (table : List (Option Initial)) (n : ℕ) → left ≡ new ++ x ∷ [] → n < length table
    → found new (set table x.object (Some x)) n ≡ found left table n
found_put left new x table n e h = found_by left new x table n e h (x.object == n) refl

-- ---- the initial values of static objects, from the last on

falls : {A : Type 0} (xs : List A) (k : ℕ) (x : A) → x ≡ get_or xs k x → k < length xs → drop k xs ≡ x ∷ drop (k + 1) xs
falls xs k x e h = rw add-one (drop-cons xs k x h ∙ ap (λ y. y ∷ drop (suc k) xs) (sym e))

past : {A : Type 0} (xs : List A) (n : ℕ) → n ≡ length xs → drop n xs ≡ []
past [] zero e = refl
past [] (suc n) e = refl
past (x ∷ xs) zero e = absurd (omega (arith, e))
past (x ∷ xs) (suc n) e = past xs n (omega arith)

line : (given : List Initial) (n : ℕ) (object : ObjectTree) (rest : List ObjectTree)
    → initials_from given n (object ∷ rest)
    ≡ (if object.is_static then given_initial given n object ∷ initials_from given (n + 1) rest else initials_from given (n + 1) rest)
unfolding initials_from
line given n object rest = refl

pub no_objects : (given : List Initial) (n : ℕ) → initials_from given n [] ≡ []
unfolding initials_from
no_objects given n = refl

-- the next object is one
static_one : (given : List Initial) (objects : List Object) (k : ℕ) (object : Object) (all : List Initial) (i : Initial) (o : Option Initial)
    → object ≡ get_or objects k object → k < length objects → object.is_static ≡ true
    → o ≡ given_to given k → i ≡ unwrap_or o (record { object = k; bytes = replicate object.size (Num 0) })
    → reverse all ≡ initials_from given (k + 1) (map object_tree (drop (k + 1) objects))
    → reverse (all ++ i ∷ []) ≡ initials_from given k (map object_tree (drop k objects))
static_one given objects k object all i o is h static found now p =
    reverse-append all (i ∷ []) ∙ ap (λ l. i ∷ l) p
    ∙ ap (λ x. x ∷ initials_from given (k + 1) (map object_tree (drop (k + 1) objects)))
    (now ∙ ap (λ o. unwrap_or o (record { object = k; bytes = replicate object.size (Num 0) })) found)
    ∙ sym (ap (λ list. initials_from given k (map object_tree list)) (falls objects k object is h)
    ∙ line given k (object_tree object) (map object_tree (drop (k + 1) objects))
    ∙ ap (λ b. if b then given_initial given k (object_tree object) ∷ initials_from given (k + 1) (map object_tree (drop (k + 1) objects))
    else initials_from given (k + 1) (map object_tree (drop (k + 1) objects))) static)

-- or none
automatic_one : (given : List Initial) (objects : List Object) (k : ℕ) (object : Object) (all : List Initial)
    → object ≡ get_or objects k object → k < length objects → object.is_static ≡ false
    → reverse all ≡ initials_from given (k + 1) (map object_tree (drop (k + 1) objects))
    → reverse all ≡ initials_from given k (map object_tree (drop k objects))
automatic_one given objects k object all is h static p =
    p ∙ sym (ap (λ list. initials_from given k (map object_tree list)) (falls objects k object is h)
    ∙ line given k (object_tree object) (map object_tree (drop (k + 1) objects))
    ∙ ap (λ b. if b then given_initial given k (object_tree object) ∷ initials_from given (k + 1) (map object_tree (drop (k + 1) objects))
    else initials_from given (k + 1) (map object_tree (drop (k + 1) objects))) static)

-- an object of the program, static or not
one_by : (given : List Initial) (objects : List Object) (k : ℕ) (object : Object) (all new : List Initial) (o : Option Initial)
    → object ≡ get_or objects k object → k < length objects → o ≡ given_to given k → (b : Bool) → object.is_static ≡ b
    → new ≡ (if b then all ++ unwrap_or o (record { object = k; bytes = replicate object.size (Num 0) }) ∷ [] else all)
    → reverse all ≡ initials_from given (k + 1) (map object_tree (drop (k + 1) objects))
    → reverse new ≡ initials_from given k (map object_tree (drop k objects))
one_by given objects k object all new o is h found true static e p =
    ap reverse e ∙ static_one given objects k object all (unwrap_or o (record { object = k; bytes = replicate object.size (Num 0) })) o is h static found refl p
one_by given objects k object all new o is h found false static e p = ap reverse e ∙ automatic_one given objects k object all is h static p

pub next_one : (given : List Initial) (objects : List Object) (k n : ℕ) (object : Object) (all new : List Initial) (o : Option Initial)
    → object ≡ get_or objects k object → k < length objects → o ≡ given_to given k → n ≡ k + 1
    → new ≡ (if object.is_static then all ++ unwrap_or o (record { object = k; bytes = replicate object.size (Num 0) }) ∷ [] else all)
    → reverse all ≡ initials_from given n (map object_tree (drop n objects))
    → reverse new ≡ initials_from given k (map object_tree (drop k objects))
next_one given objects k n object all new o is h found e f p =
    one_by given objects k object all new o is h found object.is_static refl f (subst (λ n. reverse all ≡ initials_from given n (map object_tree (drop n objects))) e p)

-- the table with one more, if it has a place for it
after_put_by : (left new : List Initial) (x : Initial) (table after : List (Option Initial)) (n : ℕ) → left ≡ new ++ x ∷ [] → n < length table
    → (b : Bool) → nat_lt x.object (length table) ≡ b → after ≡ (if b then set table x.object (Some x) else table)
    → found new after n ≡ found left table n
after_put_by left new x table after n e h true lt f = ap (λ t. found new t n) f ∙ found_put left new x table n e h
after_put_by left new x table after n e h false lt f = ap (λ t. found new t n) f ∙ found_beyond left new x table n e h (λ k. let from : length table ≤ x.object = ltb-false x.object (length table) lt in omega (arith, from, k))

pub after_put : (left new : List Initial) (x : Initial) (table after : List (Option Initial)) (m n : ℕ) → left ≡ new ++ x ∷ [] → m ≡ length table → n < m
    → after ≡ (if nat_lt x.object m then set table x.object (Some x) else table)
    → found new after n ≡ found left table n
after_put left new x table after m n e same h f =
    after_put_by left new x table after n e (subst (λ m. n < m) same h) (nat_lt x.object (length table)) refl
    (f ∙ ap (λ m. if nat_lt x.object m then set table x.object (Some x) else table) same)

-- nothing behind nothing
pub none_pushed : (xs : List (Option Initial)) → ((n : ℕ) → get_or xs n None ≡ None) → (n : ℕ) → get_or (xs ++ None ∷ []) n None ≡ None
none_pushed [] h zero = refl
none_pushed [] h (suc n) = refl
none_pushed (x ∷ xs) h zero = h zero
none_pushed (x ∷ xs) h (suc n) = none_pushed xs (λ m. h (suc m)) n

-- a place of a list is one of that with one more
pub place_before : (xs : List (Option Initial)) (x : Option Initial) (n : ℕ) → n < length xs → get_or (xs ++ x ∷ []) n None ≡ get_or xs n None
place_before [] x n h = absurd (omega (arith, h))
place_before (y ∷ xs) x zero h = refl
place_before (y ∷ xs) x (suc n) h = place_before xs x n (omega arith)

pub place_last : (xs : List (Option Initial)) (x : Option Initial) (n : ℕ) → n ≡ length xs → get_or (xs ++ x ∷ []) n None ≡ x
place_last [] x zero e = refl
place_last [] x (suc n) e = absurd (omega (arith, e))
place_last (y ∷ xs) x zero e = absurd (omega (arith, e))
place_last (y ∷ xs) x (suc n) e = place_last xs x n (omega arith)

-- no object is left behind the last
pub nothing_left : (given : List Initial) (objects : List Object) (n : ℕ) → n ≡ length objects → [] ≡ initials_from given n (map object_tree (drop n objects))
nothing_left given objects n e = sym (ap (λ xs. initials_from given n (map object_tree xs)) (past objects n e) ∙ no_objects given n)
