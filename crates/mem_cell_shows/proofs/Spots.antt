-- Where pointers of a set point.
use Rattle.std.proofs.Common.{ℕ, zero, suc, ℤ, ◌≡◌, ◌<◌, inl, Bool, true, false, List, [], ◌∷◌, length, Option, Some, None, refl, sym, subst, ◌∙◌, arith}
use Rattle.std.specs.Prelude.{All, Contains, option_map, slice_index_or, ◌==◌}
use Rattle.std.proofs.lemmas.Map.Views.{Contains-from_any}
use Rattle.c_syntax.specs.declared.alarm.Pointers.{Pointers}
use Rattle.c_syntax.specs.declared.alarm.Spot.{Spot}
use Rattle.c_syntax.specs.declared.alarm.Spot.TheVariants as spots
use Rattle.c_syntax.specs.Types.{ObjectTree}
use Rattle.c_syntax.specs.Admission.{IsSpotIn}
use Rattle.pointsets.specs.Targets.{Among, Any, BaseSet, has_name, names_of}
use Rattle.pointsets.proofs.Names.{eq-true}
use Rattle.block_mem.specs.declared.types.Pointer.{Pointer}
use Rattle.block_mem.specs.declared.types.Value.{Value}
use Rattle.block_mem.specs.declared.types.Value.TheVariants as values
use Rattle.block_mem.specs.Block.{BlockView}
use Rattle.block_mem.specs.Blocks.{block_at}
use Rattle.c_values.specs.Places.{ObjectMemory, owner_of, spot, spot_at}
use Rattle.c_objects.specs.Kept.{KeepsObjects}
use Rattle.machine_nums.specs.declared.expr.MExpr.{MExpr}
use Rattle.machine_nums.specs.MExprs.{MExprTree, mexpr_tree}
use Rattle.machine_nums.specs.Machine.{machine_value}
use Rattle.machine_nums.specs.Machines.{Admits}
use Rattle.csharp.specs.Trees.{CsExprTree}
use Rattle.mem_shown.specs.Sets.{HasAll, IsSpotBelow}
use Rattle.mem_cell_bytes.specs.Cells.{Points, number_of}
use Rattle.mem_cell_exprs.specs.Known.{HasOffset, IsPlaceFor}
use Rattle.mem_cell_exprs.specs.declared.known.Known.{Known}
use Rattle.mem_cell_shows.specs.declared.ends.Ends.{Ends}
use Rattle.mem_cell_shows.specs.Ends.{HoldsNumbers, IsProperEnds, LiesIn}
use Rattle.mem_cell_shows.specs.Shows.{HoldsOffsets, IsSpotOf, ShowsPointer, ShowsTargets, pointers_of}

-- ---- what lives

-- a block that lives was made
pub live-made : (blocks : List BlockView) (b : ℕ) → (block_at blocks b).live ≡ true → b < length blocks
live-made [] b h = cc
live-made (x ∷ blocks) zero h = omega arith
live-made (x ∷ blocks) (suc b) h = let r = live-made blocks b h in omega (arith, r)

placed-below : (places : List (Option ℕ)) (x b : ℕ) → slice_index_or places x None ≡ Some b → x < length places
placed-below [] x b h = cc
placed-below (p ∷ places) zero b h = omega arith
placed-below (p ∷ places) (suc x) b h = let r = placed-below places x b h in omega (arith, r)

-- and its object is one of the program's
pub live-owner : (objects : List ObjectTree) (m : ObjectMemory) (b : ℕ) → KeepsObjects objects m → (block_at m.blocks b).live ≡ true → owner_of m b < length objects
live-owner objects m b kept live =
    subst (λ n. owner_of m b < n) kept.counted (placed-below m.places (owner_of m b) b (kept.lives b (live-made m.blocks b live) live))

-- ---- spots

pub spot-is : (x y : Spot) → Some x ≡ Some y → y ≡ x
spot-is x y h = cc

pub spot-lives : (m : ObjectMemory) (p : Pointer) → (block_at m.blocks p.block).live ≡ true → spot_at m p ≡ spots.At (owner_of m p.block) p.offset
spot-lives m p h = rw h refl

pub spot-dead : (m : ObjectMemory) (p : Pointer) → (block_at m.blocks p.block).live ≡ false → spot_at m p ≡ spots.Dead
spot-dead m p h = rw h refl

pub spot-of : (objects : List ObjectTree) (m : ObjectMemory) (set : BaseSet) (ends : Ends) (u : Value) (x : Spot) → KeepsObjects objects m → Points m set u → LiesIn ends (number_of u)
    → spot m u ≡ Some x → IsSpotOf objects set ends x
spot-of objects m set ends (values.Int t n) x kept points lies h = cc
spot-of objects m set ends values.Null x kept points lies h = subst (IsSpotOf objects set ends) (sym (spot-is spots.Null x h)) points
spot-of objects m set ends (values.Ptr p) x kept points lies h = by ((block_at m.blocks p.block).live) refl where
  by : (live : Bool) → (block_at m.blocks p.block).live ≡ live → IsSpotOf objects set ends x
  by true e = subst (IsSpotOf objects set ends) (sym (spot-is (spot_at m p) x h ∙ spot-lives m p e)) (points.live e, live-owner objects m p.block kept e, lies)
  by false e = subst (IsSpotOf objects set ends) (sym (spot-is (spot_at m p) x h ∙ spot-dead m p e)) (points.dead e)

-- whatever a pointer points to is null, dead or one of the objects
pub spot-below : (objects : List ObjectTree) (m : ObjectMemory) (u : Value) (x : Spot) → KeepsObjects objects m → spot m u ≡ Some x → IsSpotBelow (length objects) x
spot-below objects m (values.Int t n) x kept h = cc
spot-below objects m values.Null x kept h = subst (IsSpotBelow (length objects)) (sym (spot-is spots.Null x h)) tt
spot-below objects m (values.Ptr p) x kept h = by ((block_at m.blocks p.block).live) refl where
  by : (live : Bool) → (block_at m.blocks p.block).live ≡ live → IsSpotBelow (length objects) x
  by true e = subst (IsSpotBelow (length objects)) (sym (spot-is (spot_at m p) x h ∙ spot-lives m p e)) (live-owner objects m p.block kept e)
  by false e = subst (IsSpotBelow (length objects)) (sym (spot-is (spot_at m p) x h ∙ spot-dead m p e)) tt

-- ---- what is shown of a set

contains-name : (names : List ℕ) (o : ℕ) → has_name names o ≡ true → Contains names o
contains-name names o h = Contains-from_any {eq = λ q y. y == q} (λ x y e. sym (eq-true y x e)) o names h

pub named-shown : (count : ℕ) (set : BaseSet) (ends : Ends) → (set ≡ Any → ⊥) → All (λ o. o < count) (names_of set) → IsProperEnds ends
    → ShowsTargets count set ends (pointers_of set (names_of set) ends)
named-shown count Any ends some below proper = absurd (some refl)
named-shown count (Among ns n d) ends some below proper = record { holds = holds; proper = proper; names = below } where
  holds : (objects : List ObjectTree) (x : Spot) → IsSpotOf objects (Among ns n d) ends x → IsSpotIn objects (pointers_of (Among ns n d) ns ends) x
  holds objects spots.Null h = h
  holds objects spots.Dead h = h
  holds objects (spots.At o e) h = (inl (contains-name ns o h.0), h.2.0, h.2.1)

-- ---- what is shown of an expression

pub offset-known : (v : List ℤ) (m : MExpr) (offset : Option MExpr) (u : Value) → offset ≡ Some m → HasOffset v (option_map mexpr_tree offset) u → machine_value v (mexpr_tree m) ≡ Some (number_of u)
offset-known v m None u e h = cc
offset-known v m (Some k) u e h = let same : k ≡ m = cc in subst (λ x. machine_value v (mexpr_tree x) ≡ Some (number_of u)) same h

pub offsets-hold : (A : List ℤ → Type 0) (m : MExpr) (offset : Option MExpr) (w : Ends) → offset ≡ Some m → HoldsNumbers A (λ v. machine_value v (mexpr_tree m)) w
    → HoldsOffsets A (option_map mexpr_tree offset) w
offsets-hold A m offset w e h = record { holds = λ v u a k. h.holds v (number_of u) a (offset-known v m offset u e k); proper = h.proper }

module _ {D : Type 0} (admits : D → List ℤ → Type 0) (k : Known D) (count : ℕ) (e : CsExprTree) where
  pub any-shown : (shown : Pointers) → HasAll shown → ShowsPointer admits k count e shown
  any-shown shown all = record {
    holds = λ objects s u x st is h. all.all objects x (spot-below objects s.memory u x st.kept h);
    proper = all.proper;
    names = all.names count;
  }

  pub place-shown : (set : BaseSet) (offset : Option MExprTree) (ends : Ends) (shown : Pointers) → IsPlaceFor admits k e set offset
      → HoldsOffsets (Admits admits k.nums) offset ends → ShowsTargets count set ends shown → ShowsPointer admits k count e shown
  place-shown set offset ends shown place offsets shows = record {
    holds = λ objects s u x st is h.
        let p = place objects s st u is in
        shows.holds objects x (spot-of objects s.memory set ends u x st.kept p.0 (offsets.holds st.v u st.admitted p.1) h);
    proper = shows.proper;
    names = shows.names;
  }
