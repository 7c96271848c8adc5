-- What was put out by one call, by several in turn, and by none.
use Rattle.std.proofs.Common.{◌≡◌, sym, subst, ℤ, List, [], ◌∷◌, ◌++◌, length, drop, All}
use Rattle.std.proofs.lemmas.List.{append-nil, append_assoc}
use Rattle.std.proofs.lemmas.List.Elements.{All-append, All-nil, All-cons}
use Rattle.std.proofs.Math.Seq.{drop-length, drop-append_seam}
use Rattle.num_api.specs.declared.message.Message.{Message}
use Rattle.num_api.specs.Messages.{Holds, IsProper, Adds, TellsOf, put_out}

seam : (a b c p q : List Message) → b ≡ a ++ p → c ≡ b ++ q → c ≡ a ++ (p ++ q)
seam a b c p q e f = subst (λ (l : List Message). c ≡ l) (append_assoc a p q) (subst (λ (l : List Message). c ≡ l ++ q) e f)

pub put_out_two : (a b c p q : List Message) → b ≡ a ++ p → c ≡ b ++ q → put_out a c ≡ p ++ q
put_out_two a b c p q e f = subst (λ (l : List Message). drop (length a) l ≡ p ++ q) (sym (seam a b c p q e f)) (drop-append_seam a (p ++ q))

pub adds_two : (a b c p q : List Message) → b ≡ a ++ p → c ≡ b ++ q → All IsProper p → All IsProper q → Adds a c
adds_two a b c p q e f h k =
    let put = put_out_two a b c p q e f in
    record {
      kept = subst (λ (l : List Message). c ≡ a ++ l) (sym put) (seam a b c p q e f);
      proper = subst (All IsProper) (sym put) (All-append IsProper p q h k);
    }

pub tells_two : (v : List ℤ) (a b c p q : List Message) → b ≡ a ++ p → c ≡ b ++ q → All (Holds v) p → All (Holds v) q → TellsOf v a c
tells_two v a b c p q e f h k = subst (All (Holds v)) (sym (put_out_two a b c p q e f)) (All-append (Holds v) p q h k)

-- two calls in turn
pub adds_twice : (a b c : List Message) → Adds a b → Adds b c → Adds a c
adds_twice a b c f s = adds_two a b c (put_out a b) (put_out b c) f.kept s.kept f.proper s.proper

pub tells_twice : (v : List ℤ) (a b c : List Message) → Adds a b → Adds b c → TellsOf v a b → TellsOf v b c → TellsOf v a c
tells_twice v a b c f s h k = tells_two v a b c (put_out a b) (put_out b c) f.kept s.kept h k

-- one message more
pub adds_one : (a b c : List Message) (m : Message) → Adds a b → c ≡ b ++ m ∷ [] → IsProper m → Adds a c
adds_one a b c m h f k = adds_two a b c (put_out a b) (m ∷ []) h.kept f h.proper (All-cons IsProper m [] k (All-nil IsProper))

pub tells_one : (v : List ℤ) (a b c : List Message) (m : Message) → Adds a b → c ≡ b ++ m ∷ [] → TellsOf v a b → Holds v m → TellsOf v a c
tells_one v a b c m h f t k = tells_two v a b c (put_out a b) (m ∷ []) h.kept f t (All-cons (Holds v) m [] k (All-nil (Holds v)))

-- nothing
pub adds_none : (a : List Message) → Adds a a
adds_none a = record {
  kept = subst (λ (l : List Message). a ≡ a ++ l) (sym (drop-length a)) (sym (append-nil a));
  proper = subst (All IsProper) (sym (drop-length a)) (All-nil IsProper);
}

pub tells_none : (v : List ℤ) (a : List Message) → TellsOf v a a
tells_none v a = subst (All (Holds v)) (sym (drop-length a)) (All-nil (Holds v))

-- what was put out behind an empty list
pub told_all : (w : List ℤ) (old new list : List Message) → old ≡ [] → list ≡ new → TellsOf w old new → All (Holds w) list
told_all w old new list e f t = subst (All (Holds w)) (sym f) (subst (λ (o : List Message). All (Holds w) (drop (length o) new)) e t)
