-- What has a length at the front of a text, and how a front goes on over it.
use Rattle.std.proofs.Common.{◌≡◌, ◌≢◌, ℕ, List, [], ◌∷◌, ◌++◌, map, take, drop, refl, ap}
use Rattle.std.specs.Prelude.{Option, Some, None, MatchOption}
use Rattle.c_syntax_written.specs.declared.place.Pos.{Pos}
use Rattle.c_syntax_written.specs.declared.token.Keyword.{Keyword}
use Rattle.c_syntax_written.specs.declared.token.Token.{Token}
use Rattle.c_syntax_written.specs.declared.token.Token.TheVariants as kinds
use Rattle.c_syntax_written.specs.declared.token.Placed.{Placed}
use Rattle.c_lexer.specs.Spelling.{keyword_text, Reads}
use Rattle.c_lexer.specs.Cut.{Front, IsToken, IsWord, moved_of}
use Rattle.c_lexer.specs.Piece.{IsPiece, IsCharacter}
use Rattle.c_lexer.specs.Stretch.{stretch_of}
use Rattle.c_lexer.specs.declared.reason.Reason.{Reason}
use Rattle.c_lexer.specs.declared.piece.Piece.{Piece}
use Rattle.c_lexer.specs.declared.piece.Piece.TheVariants as pieces
use Rattle.c_lexer.specs.declared.stretch.Stretch.TheVariants as stretches
use Rattle.c_lexer.proofs.CharacterLemmas.{one_more}
use Rattle.c_lexer.proofs.Fronts.{next_white, next_token}

pub over_front : {text last : List ℕ} {at to : Pos} {ts : List Placed} → Front text at ts last to → (p : Piece) (n : ℕ) → IsPiece last p → stretches.Over n ≡ stretch_of p → (s rest : List ℕ) (then : Pos) → s ≡ take n last → rest ≡ drop n last → then ≡ moved_of to s → (us : List Placed) × Front text at us rest then
over_front {ts = ts} d (pieces.White m) n h e s rest then es er et =
    let k : m ≡ n = cc in
    (ts, next_white d (pieces.White m) n h (ap pieces.White k) s rest then es er et)
over_front {to = to} {ts = ts} d (pieces.Token t m) n h e s rest then es er et =
    let k : m ≡ n = cc in
    (ts ++ record { pos = to; token = t } ∷ [], next_token d (pieces.Token t m) t n h (ap (pieces.Token t) k) s rest then es er et)
over_front d (pieces.Refused reason m) n h e s rest then es er et = absurd (cc)
over_front d pieces.Hash n h e s rest then es er et = absurd (cc)

pub refused_is : (p : Piece) (reason : Reason) (n : ℕ) → stretches.Refused reason n ≡ stretch_of p → p ≡ pieces.Refused reason n
refused_is (pieces.White m) reason n e = absurd (cc)
refused_is (pieces.Token t m) reason n e = absurd (cc)
refused_is (pieces.Refused r m) reason n e = cc
refused_is pieces.Hash reason n e = absurd (cc)

pub hash_is : (p : Piece) → stretches.Hash ≡ stretch_of p → p ≡ pieces.Hash
hash_is (pieces.White m) e = absurd (cc)
hash_is (pieces.Token t m) e = absurd (cc)
hash_is (pieces.Refused r m) e = absurd (cc)
hash_is pieces.Hash e = refl

-- a word is a token
pub word_token : (s : List ℕ) (k : Option Keyword) → IsWord s → MatchOption k ((k : Keyword) → s ≢ keyword_text k) (λ k. s ≡ keyword_text k) → (t : Token) × IsToken s t
word_token s None w n = (kinds.Word s, (w, refl, n))
word_token s (Some k) w e = (kinds.Keyword k, e)

-- one more character of a string, which is allowed
pub allowed : (s rest after : List ℕ) (us : List ℕ) (v : Option ℕ) → Reads 34 s (map Some us) rest → IsCharacter 34 rest v after → (v ≡ None → ⊥) → (ws : List ℕ) × Reads 34 s (map Some ws) after
allowed s rest after us None r c n = absurd (n refl)
allowed s rest after us (Some b) r c n = (us ++ b ∷ [], one_more s rest after us (us ++ b ∷ []) b (Some b) r c refl refl)
