-- Sets of tokens, which see a token by its class alone; one set held against another by going through all classes.
use Rattle.std.proofs.Common.{◌≡◌, refl, sym, subst, ap, ◌∙◌, Bool, true, false, not, ◌&&◌, ◌||◌, List, [], ◌∷◌, true≢false}
use Rattle.c_syntax_written.specs.declared.token.Token.{Token}
use Rattle.c_syntax_written.specs.declared.token.Token.TheVariants as kinds
use Rattle.c_grammar.specs.Parts.{Scene}
use Rattle.c_grammar.specs.declared.class.Class.{Class}
use Rattle.c_grammar.specs.declared.class.Class.TheVariants.{Keyword as keyword, Sign as sign, Word as word, AnyWord as any_word, TypeName as type_name, Number as number, Character as character, Text as text}
use Rattle.c_grammar.specs.Classes.{Fits, names_type}
use Rattle.c_grammar.proofs.Sweep.{and_left, and_right, every, every_nth, keyword_list, sign_list, keyword_sweep, sign_sweep}

abbrev pub word_class : Bool → Class
word_class true = type_name
word_class false = word

-- the narrowest class of a token
abbrev pub class_of : Scene → Token → Class
class_of w (kinds.Word name) = word_class (names_type w name)
class_of w (kinds.Keyword k) = keyword k
class_of w (kinds.Number c) = number
class_of w (kinds.Character n) = character
class_of w (kinds.Text bytes) = text
class_of w (kinds.Punctuator p) = sign p

-- where the same typedef names are in force a token has the same class
pub same_class : (w s : Scene) (t : Token) → w.types ≡ s.types → class_of w t ≡ class_of s t
unfolding names_type
same_class w s (kinds.Word name) e = ap (λ v. word_class (names_type (record { types = v; setting = w.setting }) name)) e
same_class w s _ e = refl

abbrev pub other_classes : List Class
other_classes = word ∷ any_word ∷ type_name ∷ number ∷ character ∷ text ∷ []

-- the set has every class
abbrev pub sweep : (Class → Bool) → Bool
sweep f = every f other_classes && (every (λ k. f (keyword k)) keyword_list && every (λ p. f (sign p)) sign_list)

others_swept : (f : Class → Bool) → sweep f ≡ true → every f other_classes ≡ true
others_swept f h = and_left (every f other_classes) (every (λ k. f (keyword k)) keyword_list && every (λ p. f (sign p)) sign_list) h

tokens_swept : (f : Class → Bool) → sweep f ≡ true → (every (λ k. f (keyword k)) keyword_list && every (λ p. f (sign p)) sign_list) ≡ true
tokens_swept f h = and_right (every f other_classes) (every (λ k. f (keyword k)) keyword_list && every (λ p. f (sign p)) sign_list) h

pub sweep_true : (f : Class → Bool) → sweep f ≡ true → (c : Class) → f c ≡ true
sweep_true f h word = every_nth f other_classes (others_swept f h) 0
sweep_true f h any_word = every_nth f other_classes (others_swept f h) 1
sweep_true f h type_name = every_nth f other_classes (others_swept f h) 2
sweep_true f h number = every_nth f other_classes (others_swept f h) 3
sweep_true f h character = every_nth f other_classes (others_swept f h) 4
sweep_true f h text = every_nth f other_classes (others_swept f h) 5
sweep_true f h (keyword k) = keyword_sweep (λ k. f (keyword k)) (and_left (every (λ k. f (keyword k)) keyword_list) (every (λ p. f (sign p)) sign_list) (tokens_swept f h)) k
sweep_true f h (sign p) = sign_sweep (λ p. f (sign p)) (and_right (every (λ k. f (keyword k)) keyword_list) (every (λ p. f (sign p)) sign_list) (tokens_swept f h)) p

pub clash : (a b : Bool) → not (a && b) ≡ true → a ≡ true → b ≡ false
clash true true h e = sym h
clash true false h e = refl
clash false b h e = absurd (true≢false (sym e))

pub implied : (a b : Bool) → (not a || b) ≡ true → a ≡ true → b ≡ true
implied true b h e = h
implied false b h e = absurd (true≢false (sym e))

pub implied_not : (a b : Bool) → (not a || b) ≡ true → b ≡ false → a ≡ false
implied_not true b h e = absurd (true≢false (sym h ∙ e))
implied_not false b h e = refl

pub not_true : (b : Bool) → not b ≡ true → b ≡ false
not_true true h = sym h
not_true false h = refl

-- the sets have no class in common
abbrev pub apart : (f g : Class → Bool) → Bool
apart f g = sweep (λ c. not (f c && g c))

-- the first set is a part of the second
abbrev pub inside : (f g : Class → Bool) → Bool
inside f g = sweep (λ c. not (f c) || g c)

pub apart_not : (f g : Class → Bool) → apart f g ≡ true → (c : Class) → f c ≡ true → g c ≡ false
apart_not f g h c = clash (f c) (g c) (sweep_true (λ c. not (f c && g c)) h c)

pub inside_true : (f g : Class → Bool) → inside f g ≡ true → (c : Class) → f c ≡ true → g c ≡ true
inside_true f g h c = implied (f c) (g c) (sweep_true (λ c. not (f c) || g c) h c)

pub inside_not : (f g : Class → Bool) → inside f g ≡ true → (c : Class) → g c ≡ false → f c ≡ false
inside_not f g h c = implied_not (f c) (g c) (sweep_true (λ c. not (f c) || g c) h c)

-- the set has the class, and for any word both classes of words
abbrev pub covers : (Class → Bool) → Class → Bool
covers f any_word = f word && f type_name
covers f (keyword k) = f (keyword k)
covers f (sign p) = f (sign p)
covers f word = f word
covers f type_name = f type_name
covers f number = f number
covers f character = f character
covers f text = f text

either_word : (f : Class → Bool) → (f word && f type_name) ≡ true → (b : Bool) → f (word_class b) ≡ true
either_word f h true = and_right (f word) (f type_name) h
either_word f h false = and_left (f word) (f type_name) h

-- a token that fits a class of the set is of the set
pub fits_covers : (w : Scene) (c : Class) (t : Token) (f : Class → Bool) → Fits w c t → covers f c ≡ true → f (class_of w t) ≡ true
fits_covers w (keyword k) t f e h = subst (λ t. f (class_of w t) ≡ true) (sym e) h
fits_covers w (sign p) t f e h = subst (λ t. f (class_of w t) ≡ true) (sym e) h
fits_covers w word (kinds.Word name) f e h = subst (λ b. f (word_class b) ≡ true) (sym e) h
fits_covers w word _ f e h = absurd e
fits_covers w type_name (kinds.Word name) f e h = subst (λ b. f (word_class b) ≡ true) (sym e) h
fits_covers w type_name _ f e h = absurd e
fits_covers w any_word (kinds.Word name) f e h = either_word f h (names_type w name)
fits_covers w any_word _ f e h = absurd e
fits_covers w number (kinds.Number c) f e h = h
fits_covers w number _ f e h = absurd e
fits_covers w character (kinds.Character n) f e h = h
fits_covers w character _ f e h = absurd e
fits_covers w text (kinds.Text bytes) f e h = h
fits_covers w text _ f e h = absurd e

-- a token that fits a class outside of the set is not of the set
pub fits_misses : (w : Scene) (c : Class) (t : Token) (f : Class → Bool) → Fits w c t → covers (λ c. not (f c)) c ≡ true → f (class_of w t) ≡ false
fits_misses w c t f e h = not_true (f (class_of w t)) (fits_covers w c t (λ c. not (f c)) e h)
