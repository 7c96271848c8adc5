-- Worlds whose structs are as typing makes them, and what later worlds keep of their structs and tags.
use Rattle.std.proofs.Common.{◌≡◌, ℕ, ◌<◌, ◌≤◌, List, [], ◌∷◌, ◌++◌, length, take, drop, refl, ap, sym, subst, ◌∙◌, ⊎_elim, arith}
use Rattle.std.specs.Prelude.{Bool, true, false, if◌then◌else◌, All, map, bytes_eq, Option, None, Some, option_map, unwrap_or, IsTrue, set, slice_get}
use Rattle.std.proofs.lemmas.Bool.{cases_eq, false≢true}
use Rattle.std.proofs.lemmas.List.{length-set, length-append}
use Rattle.std.proofs.lemmas.List.Elements.{All-push, All-append, All-take, All-drop, All-map, All-weaker}
use Rattle.c_syntax_written.specs.declared.place.Pos.{Pos}
use Rattle.c_syntax_written.specs.declared.written.Tag.{Tag}
use Rattle.c_syntax.specs.Program.{MemberTree, StructDefTree}
use Rattle.c_typing.specs.World.{World, Binding, Meaning, TagBinding, TagMeaning, StructTag, OpenEnumTag}
use Rattle.c_typing.specs.Names.{opened, closed, tag_become, with_name, with_struct, with_tag, with_tag_become, with_members, struct_of, tag_of}
use Rattle.c_layout.specs.Layout.{struct_space, spaces_by, in_table}
use Rattle.c_typing.specs.Later.{has_members, is_complete, IsLater}
use Rattle.c_typing.specs.Formed.{IsFormedMeaning, IsFormedTag}
use Rattle.c_typing.proofs.Later.{meaning_later, tag_later}
use Rattle.c_typing.proofs.SoundTables.{IsSound, AreSound, sound_with, sound_complete}
use Rattle.c_typing.proofs.Opens.{Opens, IsOpen, AreDistinct, open_either, open_take, open_drop, open_apart, distinct_take, distinct_drop, distinct_append, open_before, distinct_before}
use Rattle.c_typing.proofs.MadeTables.{IsMade, keeps_made, with_made, AreMade, IsIncomplete, get_append, get_last, get_set, get_other, complete_below, Keeps, made_with, made_complete}

-- what names and tags stand for is formed
pub record AreFormed (structs : List StructDefTree) (bindings : List Binding) (tag_bindings : List TagBinding) : Type 0 where
  pub names : All (λ b. IsFormedMeaning structs b.meaning) bindings
  pub tags : All (λ b. IsFormedTag structs b.meaning) tag_bindings

-- each struct that a tag declares and does not define has no members yet, and complete structs are as typing makes them
pub record Good (w : World) : Type 0 where
  pub incomplete : (n : ℕ) → IsOpen n w.tags → IsIncomplete w.structs n
  pub distinct : AreDistinct w.tags
  pub made : IsMade w.structs
  pub sound : IsSound w.structs
  pub formed : AreFormed w.structs w.names w.tags

-- what a later world keeps: a struct that no tag leaves to be defined stays as it is
pub record Frame (w v : World) : Type 0 where
  pub longer : length w.structs ≤ length v.structs
  pub same : (n : ℕ) (def : StructDefTree) → slice_get w.structs n ≡ Some def → (IsOpen n w.tags → ⊥) → slice_get v.structs n ≡ Some def
  pub shut : (n : ℕ) → n < length w.structs → (IsOpen n w.tags → ⊥) → IsOpen n v.tags → ⊥
  pub tags : (n : ℕ) (def : StructDefTree) → slice_get w.structs n ≡ Some def → (now : StructDefTree) × (slice_get v.structs n ≡ Some now) × (now.tag ≡ def.tag)

pub frame_then : (u v w : World) → Frame u v → Frame v w → Frame u w
frame_then u v w f g = record {
  longer = let a = f.longer in let b = g.longer in omega arith;
  same = λ n def e c. g.same n def (f.same n def e c) (f.shut n (complete_below u.structs n def e) c);
  shut = λ n h c. let l = f.longer in g.shut n (omega arith) (f.shut n h c);
  tags = λ n def e. let one = f.tags n def e in let two = g.tags n one.0 one.1 in (two.0, two.1, two.2 ∙ one.2);
}

-- a struct that a later world leaves incomplete
pub incomplete_kept : (w v : World) → Frame w v → (n : ℕ) → IsIncomplete w.structs n → (IsOpen n w.tags → ⊥) → IsIncomplete v.structs n
incomplete_kept w v f n bare c = record { def = bare.def; there = f.same n bare.def bare.there c; empty = bare.empty }

-- no complete struct is left to be defined
pub complete_shut : (w : World) → Good w → (n : ℕ) → IsTrue (is_complete w.structs n) → IsOpen n w.tags → ⊥
complete_shut w good n c p =
    let bare = good.incomplete n p in
    false≢true (sym (ap has_members (ap (λ o. unwrap_or (option_map (λ d. d.members) o) []) bare.there ∙ bare.empty)) ∙ c)

pub complete_there : (a : List StructDefTree) (n : ℕ) → IsTrue (is_complete a n) → (def : StructDefTree) × (slice_get a n ≡ Some def)
complete_there a n c = at (slice_get a n) refl c
  where
    at : (o : Option StructDefTree) → slice_get a n ≡ o → IsTrue (has_members (unwrap_or (option_map (λ d. d.members) o) [])) → (def : StructDefTree) × (slice_get a n ≡ Some def)
    at None e c = absurd (false≢true c)
    at (Some def) e c = (def, e)

-- complete structs stay as they are
pub frame_keeps : (w v : World) → Good w → Frame w v → Keeps w.structs v.structs
frame_keeps w v good f n c = let at = complete_there w.structs n c in f.same n at.0 at.1 (complete_shut w good n c) ∙ sym at.1

pub formed_grown : (a b : List StructDefTree) (names : List Binding) (tags : List TagBinding) → IsLater a b → AreFormed a names tags → AreFormed b names tags
formed_grown a b names tags later formed = record {
  names = All-weaker (λ x. IsFormedMeaning a x.meaning) (λ x. IsFormedMeaning b x.meaning) (λ x f. meaning_later a b later x.meaning f) names formed.names;
  tags = All-weaker (λ x. IsFormedTag a x.meaning) (λ x. IsFormedTag b x.meaning) (λ x f. tag_later a b later x.meaning f) tags formed.tags;
}

-- tables that typing makes, of which one keeps the complete structs of the other
pub later_made : (a b : List StructDefTree) → IsMade a → IsMade b → length a ≤ length b → Keeps a b → IsLater a b
later_made a b made after longer keeps = record { laid_out = made.laid_out; still = after.laid_out; longer = longer; same = keeps }

pub is_later : (w v : World) → Good w → Good v → Frame w v → IsLater w.structs v.structs
is_later w v good after f = later_made w.structs v.structs good.made after.made f.longer (frame_keeps w v good f)

-- ---- changes of other parts of a world

pub good_same : (w v : World) → v.structs ≡ w.structs → v.tags ≡ w.tags → v.names ≡ w.names → Good w → Good v
good_same w v s t n good = record {
  incomplete = λ n p. subst (λ a. IsIncomplete a n) (sym s) (good.incomplete n (subst (λ tags. IsOpen n tags) t p));
  distinct = subst AreDistinct (sym t) good.distinct;
  made = subst IsMade (sym s) good.made;
  sound = subst IsSound (sym s) good.sound;
  formed = subst (λ a. AreFormed a v.names v.tags) (sym s) (subst (λ names. AreFormed w.structs names v.tags) (sym n) (subst (λ tags. AreFormed w.structs w.names tags) (sym t) good.formed));
}

pub good_named : (w : World) (at : Pos) (name : List ℕ) (m : Meaning) → IsFormedMeaning w.structs m → Good w → Good (with_name w at name m)
good_named w at name m f good = record {
  incomplete = good.incomplete;
  distinct = good.distinct;
  made = good.made;
  sound = good.sound;
  formed = record { names = All-push (λ b. IsFormedMeaning w.structs b.meaning) w.names _ good.formed.names f; tags = good.formed.tags };
}

pub frame_same : (w v : World) → v.structs ≡ w.structs → v.tags ≡ w.tags → Frame w v
frame_same w v s t = record {
  longer = subst (λ a. length w.structs ≤ length a) (sym s) (omega arith);
  same = λ n def e c. ap (λ a. slice_get a n) s ∙ e;
  shut = λ n h c p. c (subst (λ tags. IsOpen n tags) t p);
  tags = λ n def e. (def, ap (λ a. slice_get a n) s ∙ e, refl);
}

-- ---- structs and tags

later_with : (w : World) (tag : List ℕ) → Good w → IsLater w.structs (with_struct w tag).structs
later_with w tag good =
    later_made w.structs _ good.made (made_with w.structs tag good.made) (rw length-append (omega arith))
    (λ n c. let at = complete_there w.structs n c in get_append w.structs _ n at.0 at.1 ∙ sym at.1)

pub good_struct : (w : World) (tag : List ℕ) → Good w → Good (with_struct w tag)
good_struct w tag good = record {
  incomplete = λ n p. let bare = good.incomplete n p in record { def = bare.def; there = get_append w.structs _ n bare.def bare.there; empty = bare.empty };
  distinct = good.distinct;
  made = made_with w.structs tag good.made;
  sound = sound_with w.structs tag good.made (later_with w tag good) good.sound;
  formed = formed_grown w.structs _ w.names w.tags (later_with w tag good) good.formed;
}

pub frame_struct : (w : World) (tag : List ℕ) → Frame w (with_struct w tag)
frame_struct w tag = record {
  longer = rw length-append (omega arith);
  same = λ n def e c. get_append w.structs _ n def e;
  shut = λ n h c p. c p;
  tags = λ n def e. (def, get_append w.structs _ n def e, refl);
}

-- a struct by a new tag
abbrev pub with_new : World → Tag → Option Pos → World
with_new w tag defined = with_tag (with_struct w tag.name) tag defined (StructTag (length w.structs))

new_is : (m n : ℕ) (b : TagBinding) → b.meaning ≡ StructTag m → Opens n b → m ≡ n
new_is m n b e p = let d : b.meaning ≡ StructTag n = p.declared in cc

pub good_new : (w : World) (tag : Tag) (defined : Option Pos) → Good w → Good (with_new w tag defined)
good_new w tag defined good = record {
  incomplete = λ n p. ⊎_elim (λ l. (good_struct w tag.name good).incomplete n l)
      (λ r. ⊎_elim (λ a. record {
        def = record { tag = tag.name; members = []; size = 0; align = 1 };
        there = subst (λ k. slice_get (w.structs ++ record { tag = tag.name; members = []; size = 0; align = 1 } ∷ []) k ≡ Some (record { tag = tag.name; members = []; size = 0; align = 1 })) (new_is (length w.structs) n _ refl a) (get_last w.structs _);
        empty = refl;
      }) (λ none. absurd none) r) (open_either n w.tags _ p);
  distinct = distinct_append w.tags _ good.distinct ((λ n a p. p), tt)
      (λ n p q. ⊎_elim (λ a. apart n p (new_is (length w.structs) n _ refl a)) (λ none. none) q);
  made = made_with w.structs tag.name good.made;
  sound = sound_with w.structs tag.name good.made (later_with w tag.name good) good.sound;
  formed =
      let grown = formed_grown w.structs _ w.names w.tags (later_with w tag.name good) good.formed in
      record { names = grown.names; tags = All-push (λ b. IsFormedTag (with_struct w tag.name).structs b.meaning) w.tags _ grown.tags (rw length-append (omega arith)) };
}
  where
    apart : (n : ℕ) → IsOpen n w.tags → length w.structs ≡ n → ⊥
    apart n p e = let bare = good.incomplete n p in let h = complete_below w.structs n bare.def bare.there in absurd (omega arith)

pub frame_new : (w : World) (tag : Tag) (defined : Option Pos) → Frame w (with_new w tag defined)
frame_new w tag defined = record {
  longer = rw length-append (omega arith);
  same = λ n def e c. get_append w.structs _ n def e;
  shut = λ n h c p. ⊎_elim c (λ r. ⊎_elim (λ a. let s = new_is (length w.structs) n _ refl a in absurd (omega arith)) (λ none. none) r) (open_either n w.tags _ p);
  tags = λ n def e. (def, get_append w.structs _ n def e, refl);
}

no_struct : (n : ℕ) (b : TagBinding) → b.meaning ≡ OpenEnumTag → Opens n b → ⊥
no_struct n b e p = let d : b.meaning ≡ StructTag n = p.declared in let c : OpenEnumTag ≡ StructTag n = sym e ∙ d in cc

pub good_enum : (w : World) (tag : Tag) (defined : Option Pos) → Good w → Good (with_tag w tag defined OpenEnumTag)
good_enum w tag defined good = record {
  incomplete = λ n p. ⊎_elim (λ l. good.incomplete n l) (λ r. ⊎_elim (λ a. absurd (no_struct n _ refl a)) (λ none. absurd none) r) (open_either n w.tags _ p);
  distinct = distinct_append w.tags _ good.distinct ((λ n a p. p), tt) (λ n p q. ⊎_elim (λ a. no_struct n _ refl a) (λ none. none) q);
  made = good.made;
  sound = good.sound;
  formed = record { names = good.formed.names; tags = All-push (λ b. IsFormedTag w.structs b.meaning) w.tags _ good.formed.tags tt };
}

pub frame_enum : (w : World) (tag : Tag) (defined : Option Pos) → Frame w (with_tag w tag defined OpenEnumTag)
frame_enum w tag defined = record {
  longer = omega arith;
  same = λ n def e c. e;
  shut = λ n h c p. ⊎_elim c (λ r. ⊎_elim (λ a. no_struct n _ refl a) (λ none. none) r) (open_either n w.tags _ p);
  tags = λ n def e. (def, e, refl);
}

pub open_changed : (n : ℕ) (w : World) (tag : List ℕ) (at : Pos) (m : TagMeaning) → IsOpen n (with_tag_become w tag (Some at) m).tags → IsOpen n w.tags
open_changed n w tag at m p =
    ⊎_elim (λ l. open_take n w.first_tag w.tags l) (λ r. open_drop n w.first_tag w.tags (open_before n at m tag (drop w.first_tag w.tags) r))
    (open_either n (take w.first_tag w.tags) _ p)

formed_become :
    (structs : List StructDefTree) (at : Pos) (m : TagMeaning) (b : TagBinding) (here : Bool) → IsFormedTag structs m → IsFormedTag structs b.meaning
    → IsFormedTag structs (if here then record b { defined = Some at; meaning = m } else b).meaning
formed_become structs at m b true f g = f
formed_become structs at m b false f g = g

tags_become :
    (structs : List StructDefTree) (at : Pos) (m : TagMeaning) (tag : List ℕ) (tags : List TagBinding) → IsFormedTag structs m → All (λ b. IsFormedTag structs b.meaning) tags
    → All (λ b. IsFormedTag structs b.meaning) (map (tag_become (Some at) m tag) tags)
tags_become structs at m tag tags f all =
    All-map (λ b. IsFormedTag structs b.meaning) (tag_become (Some at) m tag) tags
    (All-weaker (λ b. IsFormedTag structs b.meaning) (λ b. IsFormedTag structs (tag_become (Some at) m tag b).meaning) (λ b g. formed_become structs at m b (bytes_eq b.tag tag) f g) tags all)

pub good_changed : (w : World) (tag : List ℕ) (at : Pos) (m : TagMeaning) → IsFormedTag w.structs m → Good w → Good (with_tag_become w tag (Some at) m)
good_changed w tag at m f good = record {
  incomplete = λ n p. good.incomplete n (open_changed n w tag at m p);
  distinct = distinct_append (take w.first_tag w.tags) _ (distinct_take w.first_tag w.tags good.distinct)
      (distinct_before at m tag (drop w.first_tag w.tags) (distinct_drop w.first_tag w.tags good.distinct))
      (λ n p q. open_apart n w.first_tag w.tags good.distinct p (open_before n at m tag (drop w.first_tag w.tags) q));
  made = good.made;
  sound = good.sound;
  formed = record {
    names = good.formed.names;
    tags = All-append (λ b. IsFormedTag w.structs b.meaning) (take w.first_tag w.tags) _ (All-take (λ b. IsFormedTag w.structs b.meaning) w.first_tag w.tags good.formed.tags)
        (tags_become w.structs at m tag (drop w.first_tag w.tags) f (All-drop (λ b. IsFormedTag w.structs b.meaning) w.first_tag w.tags good.formed.tags));
  };
}

pub frame_changed : (w : World) (tag : List ℕ) (at : Pos) (m : TagMeaning) → Frame w (with_tag_become w tag (Some at) m)
frame_changed w tag at m = record {
  longer = omega arith;
  same = λ n def e c. e;
  shut = λ n h c p. c (open_changed n w tag at m p);
  tags = λ n def e. (def, e, refl);
}

-- ---- scopes

pub good_closed : (u v : World) → Good v → Good (closed u v)
good_closed u v good = record {
  incomplete = λ n p. good.incomplete n (open_take n (length u.tags) v.tags p);
  distinct = distinct_take (length u.tags) v.tags good.distinct;
  made = good.made;
  sound = good.sound;
  formed = record {
    names = All-take (λ b. IsFormedMeaning v.structs b.meaning) (length u.names) v.names good.formed.names;
    tags = All-take (λ b. IsFormedTag v.structs b.meaning) (length u.tags) v.tags good.formed.tags;
  };
}

pub frame_closed : (u v : World) → Frame (opened u) v → Frame u (closed u v)
frame_closed u v f = record {
  longer = f.longer;
  same = f.same;
  shut = λ n h c p. f.shut n h c (open_take n (length u.tags) v.tags p);
  tags = f.tags;
}

-- ---- the braces of a struct

-- between its braces a struct is incomplete and no tag leaves it to be defined; it is new, or was left to be defined
pub record IsBegun (w v : World) (n : ℕ) : Type 0 where
  pub incomplete : IsIncomplete v.structs n
  pub shut : IsOpen n v.tags → ⊥
  pub from : n < length w.structs → (IsOpen n w.tags → ⊥) → ⊥

pub good_body : (u w v : World) (n : ℕ) (members : List MemberTree) → IsBegun u w n → Frame w v → Good v → AreMade v.structs members → AreSound v.structs members → Good (with_members v n members)
good_body u w v n members begun f after are sound = record {
  incomplete = λ k p. let bare = after.incomplete k p in record {
    def = bare.def;
    there = get_other v.structs n k _ (λ e. shut (subst (λ j. IsOpen j v.tags) e p)) ∙ bare.there;
    empty = bare.empty;
  };
  distinct = after.distinct;
  made = complete;
  sound = sound_complete v.structs n (tag_of v.structs n) members after.made complete grown bare_now are.complete after.sound sound;
  formed = formed_grown v.structs _ v.names v.tags grown after.formed;
}
  where
    bare_now : IsIncomplete v.structs n
    bare_now = incomplete_kept w v f n begun.incomplete begun.shut

    complete : IsMade (with_made v.structs n (tag_of v.structs n) members)
    complete = made_complete v.structs n (tag_of v.structs n) members after.made bare_now are

    grown : IsLater v.structs (with_made v.structs n (tag_of v.structs n) members)
    grown = later_made v.structs _ after.made complete (rw length-set (omega arith)) (keeps_made v.structs n (tag_of v.structs n) members bare_now)

    shut : IsOpen n v.tags → ⊥
    shut = f.shut n (complete_below w.structs n begun.incomplete.def begun.incomplete.there) begun.shut

pub frame_body : (u v : World) (n : ℕ) (members : List MemberTree) → (n < length u.structs → (IsOpen n u.tags → ⊥) → ⊥) → Frame u v → Frame u (with_members v n members)
frame_body u v n members from f = record {
  longer = rw length-set f.longer;
  same = λ k def e c. get_other v.structs n k _ (λ q. other k def e c q) ∙ f.same k def e c;
  shut = f.shut;
  tags = λ k def e. let now = f.tags k def e in
      ⊎_elim (λ q. (new, subst (λ j. slice_get (set v.structs n new) j ≡ Some new) (sym q) (get_set v.structs n now.0 new (subst (λ j. slice_get v.structs j ≡ Some now.0) q now.1)), tagged k now.0 q now.1 ∙ now.2))
      (λ q. (now.0, get_other v.structs n k _ q ∙ now.1, now.2)) (cases_eq k n);
}
  where
    new : StructDefTree
    new = struct_of (tag_of v.structs n) members (struct_space (spaces_by (in_table v.structs) members))

    other : (k : ℕ) (def : StructDefTree) → slice_get u.structs k ≡ Some def → (IsOpen k u.tags → ⊥) → k ≡ n → ⊥
    other k def e c q = from (subst (λ j. j < length u.structs) q (complete_below u.structs k def e)) (λ p. c (subst (λ j. IsOpen j u.tags) (sym q) p))

    tagged : (k : ℕ) (now : StructDefTree) → k ≡ n → slice_get v.structs k ≡ Some now → tag_of v.structs n ≡ now.tag
    tagged k now q e = ap (λ j. tag_of v.structs j) (sym q) ∙ ap (λ o. unwrap_or (option_map (λ d. d.tag) o) []) e

-- ---- tags of a parameter list, which stand aside until the body begins

pub record IsAside (t u : World) (tags : List TagBinding) : Type 0 where
  pub incomplete : (n : ℕ) → IsOpen n tags → IsIncomplete u.structs n
  pub apart : (n : ℕ) → IsOpen n tags → IsOpen n u.tags → ⊥
  pub distinct : AreDistinct tags
  pub formed : All (λ b. IsFormedTag u.structs b.meaning) tags
  pub from : (n : ℕ) → IsOpen n tags → n < length t.structs → (IsOpen n t.tags → ⊥) → ⊥

pub aside_kept : (t u v : World) (tags : List TagBinding) → Frame u v → IsLater u.structs v.structs → IsAside t u tags → IsAside t v tags
aside_kept t u v tags f later aside = record {
  incomplete = λ n p. incomplete_kept u v f n (aside.incomplete n p) (aside.apart n p);
  apart = λ n p. let bare = aside.incomplete n p in f.shut n (complete_below u.structs n bare.def bare.there) (aside.apart n p);
  distinct = aside.distinct;
  formed = All-weaker (λ b. IsFormedTag u.structs b.meaning) (λ b. IsFormedTag v.structs b.meaning) (λ b g. tag_later u.structs v.structs later b.meaning g) tags aside.formed;
  from = aside.from;
}

-- the body's scope, with them
pub good_in :
    (t u v : World) (names : List Binding) (tags : List TagBinding) → v.structs ≡ u.structs → v.tags ≡ u.tags ++ tags → v.names ≡ u.names ++ names
    → All (λ b. IsFormedMeaning u.structs b.meaning) names → IsAside t u tags → Good u → Good v
good_in t u v names tags s e m formed aside good = record {
  incomplete = λ n p. subst (λ a. IsIncomplete a n) (sym s) (⊎_elim (λ l. good.incomplete n l) (λ r. aside.incomplete n r) (open_either n u.tags tags (subst (λ x. IsOpen n x) e p)));
  distinct = subst AreDistinct (sym e) (distinct_append u.tags tags good.distinct aside.distinct (λ n p q. aside.apart n q p));
  made = subst IsMade (sym s) good.made;
  sound = subst IsSound (sym s) good.sound;
  formed = subst (λ a. AreFormed a v.names v.tags) (sym s) (subst (λ x. AreFormed u.structs x v.tags) (sym m) (subst (λ x. AreFormed u.structs (u.names ++ names) x) (sym e) (record {
    names = All-append (λ b. IsFormedMeaning u.structs b.meaning) u.names names good.formed.names formed;
    tags = All-append (λ b. IsFormedTag u.structs b.meaning) u.tags tags good.formed.tags aside.formed;
  })));
}

-- what was not open before the parameter list is not open in the body
pub frame_in : (t u v : World) (tags : List TagBinding) → v.structs ≡ u.structs → v.tags ≡ u.tags ++ tags → IsAside t u tags → Frame t u → Frame t v
frame_in t u v tags s e aside f = record {
  longer = subst (λ a. length t.structs ≤ length a) (sym s) f.longer;
  same = λ n def q c. ap (λ a. slice_get a n) s ∙ f.same n def q c;
  shut = λ n h c p. ⊎_elim (λ l. f.shut n h c l) (λ r. aside.from n r h c) (open_either n u.tags tags (subst (λ x. IsOpen n x) e p));
  tags = λ n def q. let now = f.tags n def q in (now.0, ap (λ a. slice_get a n) s ∙ now.1, now.2);
}

pub frame_shut : (t u v : World) → Frame t v → Frame t (closed u v)
frame_shut t u v f = record {
  longer = f.longer;
  same = f.same;
  shut = λ n h c p. f.shut n h c (open_take n (length u.tags) v.tags p);
  tags = f.tags;
}
