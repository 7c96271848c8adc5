-- The rows that have a text: each by computing.
use Rattle.std.specs.Prelude.{◌≡◌, ℕ, ℤ, pos, negsuc, true, false, List, [], ◌∷◌, Some, None, codes}
use Rattle.std.proofs.Common.{refl}
use Rattle.c_syntax_written.specs.declared.place.Pos.{Pos}
use Rattle.c_syntax_written.specs.declared.int_type.IntType.TheVariants as ints
use Rattle.c_syntax.specs.declared.alarm.WrongKind.{WrongKind}
use Rattle.c_syntax.specs.declared.alarm.WrongKind.TheVariants as kinds
use Rattle.c_syntax.specs.declared.alarm.Check.{Check}
use Rattle.c_syntax.specs.declared.alarm.Shown.TheVariants as shows
use Rattle.c_syntax.specs.declared.alarm.Spot.TheVariants as spots
use Rattle.c_syntax.specs.declared.alarm.Example.TheVariants as examples
use Rattle.c_syntax.specs.declared.alarm.Cell.{Cell}
use Rattle.c_syntax.specs.declared.alarm.Fact.TheVariants as facts
use Rattle.c_syntax.specs.Types.{ObjectTree, CTypeTree, Int, Pointer, Array}
use Rattle.c_layout.specs.Calls.{PlacedCall}
use Rattle.report_alarms.specs.ReportText.{phrase_text, alarm_text, joined_on, named_from, text_of}
use Rattle.std.specs.Fmt.{digits}

abbrev at : ℕ → ℕ → Pos
at line col = record { file = 0; line = line; col = col }

abbrev check : WrongKind → ℤ → ℤ → ℕ → ℕ → Check
check kind lo hi size align = record { kind = kind; lo = lo; hi = hi; size = size; align = align }

abbrev object : List ℕ → Pos → CTypeTree → ℕ → ObjectTree
object name place ty size = record { name = name; pos = place; ty = ty; size = size; read_only = false; is_static = false }

abbrev call : Pos → ℕ → PlacedCall
call place callee = record { pos = place; callee = callee }

abbrev cell : ℕ → ℕ → ℕ → Cell
cell o offset size = record { object = o; offset = offset; size = size }

-- int main(void){int x=2147483647;x=x+1;return 0;}
row_1 : text_of (codes "a.c") (record { objects = []; names = codes "main" ∷ []; graph = Some ([]) ∷ []; main = 0 }) false
    ((record { chain = []; pos = at 1 36; kind = kinds.Overflow; check = check kinds.Overflow (negsuc 2147483647) (pos 2147483647) 0 0; shown = shows.Number (Some (pos 2147483648)) (Some (pos 2147483648)) (pos 1) (pos 0); example = examples.Number (pos 2147483648); facts = [] })
    ∷ [])
    ≡ codes "a.c:1:36: Overflow in main\n  shown: value in [2147483648,2147483648]; allowed [-2147483648,2147483647]\n  example: 2147483648\nalarms 1\n"
unfolding alarm_text joined_on named_from phrase_text digits
row_1 = refl

-- int main(void){unsigned x=4294967295u;x=x+1;return 0;}
row_2 : text_of (codes "a.c") (record { objects = []; names = codes "main" ∷ []; graph = Some ([]) ∷ []; main = 0 }) false
    ([])
    ≡ codes "no alarm\n"
unfolding alarm_text joined_on named_from phrase_text digits
row_2 = refl

-- int main(void){return (-2147483647-1)/-1;}
row_4 : text_of (codes "a.c") (record { objects = []; names = codes "main" ∷ []; graph = Some ([]) ∷ []; main = 0 }) false
    ((record { chain = []; pos = at 1 38; kind = kinds.Quotient; check = check kinds.Quotient (negsuc 2147483647) (pos 2147483647) 0 0; shown = shows.Number (Some (pos 2147483648)) (Some (pos 2147483648)) (pos 1) (pos 0); example = examples.Number (pos 2147483648); facts = [] })
    ∷ [])
    ≡ codes "a.c:1:38: Quotient in main\n  shown: value in [2147483648,2147483648]; allowed [-2147483648,2147483647]\n  example: 2147483648\nalarms 1\n"
unfolding alarm_text joined_on named_from phrase_text digits
row_4 = refl

-- int main(void){int x=1<<31;return 0;}
row_5 : text_of (codes "a.c") (record { objects = []; names = codes "main" ∷ []; graph = Some ([]) ∷ []; main = 0 }) false
    ((record { chain = []; pos = at 1 23; kind = kinds.ShiftResult; check = check kinds.ShiftResult (pos 0) (pos 2147483647) 0 0; shown = shows.Number (Some (pos 2147483648)) (Some (pos 2147483648)) (pos 1) (pos 0); example = examples.Number (pos 2147483648); facts = [] })
    ∷ [])
    ≡ codes "a.c:1:23: ShiftResult in main\n  shown: value in [2147483648,2147483648]; allowed [0,2147483647]\n  example: 2147483648\nalarms 1\n"
unfolding alarm_text joined_on named_from phrase_text digits
row_5 = refl

-- int main(void){int x=1<<32;return 0;}
row_5_amount : text_of (codes "a.c") (record { objects = []; names = codes "main" ∷ []; graph = Some ([]) ∷ []; main = 0 }) false
    ((record { chain = []; pos = at 1 23; kind = kinds.ShiftAmount; check = check kinds.ShiftAmount (pos 0) (pos 31) 0 0; shown = shows.Number (Some (pos 32)) (Some (pos 32)) (pos 1) (pos 0); example = examples.Number (pos 32); facts = [] })
    ∷ [])
    ≡ codes "a.c:1:23: ShiftAmount in main\n  shown: value in [32,32]; allowed [0,31]\n  example: 32\nalarms 1\n"
unfolding alarm_text joined_on named_from phrase_text digits
row_5_amount = refl

-- int main(void){int a[3];int *p=a+4;return 0;}
row_6 : text_of (codes "a.c") (record { objects = object (codes "a") (at 1 20) (Array (Int ints.Int) false 3) 12 ∷ object (codes "p") (at 1 30) (Pointer (Int ints.Int) false) 8 ∷ []; names = codes "main" ∷ []; graph = Some ([]) ∷ []; main = 0 }) false
    ((record { chain = []; pos = at 1 33; kind = kinds.Bounds; check = check kinds.Bounds (pos 0) (pos 0) 0 0; shown = shows.One (record { any = false; null = false; dead = false; names = 0 ∷ []; lo = Some (pos 16); hi = Some (pos 16); modulus = pos 1; rem = pos 0 }); example = examples.Point (spots.At 0 (pos 16)); facts = [] })
    ∷ [])
    ≡ codes "a.c:1:33: Bounds in main\n  shown: pointer in {a@1:20(12)} with offset in [16,16]\n  example: a@1:20+16\nalarms 1\n"
unfolding alarm_text joined_on named_from phrase_text digits
row_6 = refl

-- int main(void){int a[3];int *p=a+3;return *p;}
row_6_access : text_of (codes "a.c") (record { objects = object (codes "a") (at 1 20) (Array (Int ints.Int) false 3) 12 ∷ object (codes "p") (at 1 30) (Pointer (Int ints.Int) false) 8 ∷ []; names = codes "main" ∷ []; graph = Some ([]) ∷ []; main = 0 }) false
    ((record { chain = []; pos = at 1 43; kind = kinds.Access; check = check kinds.Access (pos 0) (pos 0) 4 4; shown = shows.One (record { any = false; null = false; dead = false; names = 0 ∷ []; lo = Some (pos 12); hi = Some (pos 12); modulus = pos 1; rem = pos 0 }); example = examples.Point (spots.At 0 (pos 12)); facts = [] })
    ∷ [])
    ≡ codes "a.c:1:43: Access in main\n  shown: pointer in {a@1:20(12)} with offset in [12,12]; access of 4 bytes aligned to 4\n  example: a@1:20+12\nalarms 1\n"
unfolding alarm_text joined_on named_from phrase_text digits
row_6_access = refl

-- int main(void){int x;if(__any_int())x=1;return x;}
row_7 : text_of (codes "a.c") (record { objects = object (codes "x") (at 1 20) (Int ints.Int) 4 ∷ []; names = codes "main" ∷ []; graph = Some ([]) ∷ []; main = 0 }) false
    ((record { chain = []; pos = at 1 48; kind = kinds.Indeterminate; check = check kinds.Indeterminate (pos 0) (pos 0) 0 0; shown = shows.Marks true true false; example = examples.Undef; facts = [] })
    ∷ [])
    ≡ codes "a.c:1:48: Indeterminate in main\n  shown: bytes may be undef, value\n  example: undef\nalarms 1\n"
unfolding alarm_text joined_on named_from phrase_text digits
row_7 = refl

-- int n=__any_int(); .. __assert(i+j==n): the place, kind and example are the row's; what is shown is a guess
row_9 : text_of (codes "a.c") (record { objects = []; names = codes "main" ∷ []; graph = Some ([]) ∷ []; main = 0 }) false
    ((record { chain = []; pos = at 1 93; kind = kinds.AssertFailed; check = check kinds.AssertFailed (pos 0) (pos 0) 0 0; shown = shows.Number (Some (pos 0)) (Some (pos 1)) (pos 1) (pos 0); example = examples.Number (pos 0); facts = [] })
    ∷ [])
    ≡ codes "a.c:1:93: AssertFailed in main\n  shown: value in [0,1]; allowed not 0\n  example: 0\nalarms 1\n"
unfolding alarm_text joined_on named_from phrase_text digits
row_9 = refl

-- int main(void){int *p;for(int i=0;i<2;i++){int y=i;if(i){int z=*p;(void)z;}p=&y;}return 0;}
row_12 : text_of (codes "a.c") (record { objects = []; names = codes "main" ∷ []; graph = Some ([]) ∷ []; main = 0 }) false
    ((record { chain = []; pos = at 1 64; kind = kinds.Dangling; check = check kinds.Dangling (pos 0) (pos 0) 0 0; shown = shows.One (record { any = false; null = false; dead = true; names = []; lo = None; hi = None; modulus = pos 1; rem = pos 0 }); example = examples.Point spots.Dead; facts = [] })
    ∷ [])
    ≡ codes "a.c:1:64: Dangling in main\n  shown: pointer in {dead}\n  example: dead\nalarms 1\n"
unfolding alarm_text joined_on named_from phrase_text digits
row_12 = refl

-- ring.c with i <= 3: the place, kind and example are the row's
row_17 : text_of (codes "ring.c") (record { objects = object (codes "weight") (at 7 18) (Array (Int ints.Int) true 3) 12 ∷ []; names = codes "main" ∷ []; graph = Some ([]) ∷ []; main = 0 }) false
    ((record { chain = []; pos = at 25 36; kind = kinds.Access; check = check kinds.Access (pos 0) (pos 0) 4 4; shown = shows.One (record { any = false; null = false; dead = false; names = 0 ∷ []; lo = Some (pos 0); hi = Some (pos 12); modulus = pos 4; rem = pos 0 }); example = examples.Point (spots.At 0 (pos 12)); facts = [] })
    ∷ [])
    ≡ codes "ring.c:25:36: Access in main\n  shown: pointer in {weight@7:18(12)} with offset in [0,12] and = 0 mod 4; access of 4 bytes aligned to 4\n  example: weight@7:18+12\nalarms 1\n"
unfolding alarm_text joined_on named_from phrase_text digits
row_17 = refl

-- int main(void){int x;int *p=&x;char c=*(char*)&p;return 0;}
row_21 : text_of (codes "a.c") (record { objects = []; names = codes "main" ∷ []; graph = Some ([]) ∷ []; main = 0 }) false
    ((record { chain = []; pos = at 1 39; kind = kinds.Fragment; check = check kinds.Fragment (pos 0) (pos 0) 0 0; shown = shows.Marks false false true; example = examples.Broken; facts = [] })
    ∷ [])
    ≡ codes "a.c:1:39: Fragment in main\n  shown: bytes may be broken\n  example: broken\nalarms 1\n"
unfolding alarm_text joined_on named_from phrase_text digits
row_21 = refl

-- int *p;int main(void){return *p;}
row_22 : text_of (codes "a.c") (record { objects = []; names = codes "main" ∷ []; graph = Some ([]) ∷ []; main = 0 }) false
    ((record { chain = []; pos = at 1 30; kind = kinds.NullUse; check = check kinds.NullUse (pos 0) (pos 0) 0 0; shown = shows.One (record { any = false; null = true; dead = false; names = []; lo = None; hi = None; modulus = pos 1; rem = pos 0 }); example = examples.Point spots.Null; facts = [] })
    ∷ [])
    ≡ codes "a.c:1:30: NullUse in main\n  shown: pointer in {null}\n  example: null\nalarms 1\n"
unfolding alarm_text joined_on named_from phrase_text digits
row_22 = refl

-- int main(void){char *s='ab';*s='x';return 0;}
row_23 : text_of (codes "a.c") (record { objects = object (codes "s") (at 1 22) (Pointer (Int ints.Char) false) 8 ∷ object (codes "string") (at 1 24) (Array (Int ints.Char) false 3) 3 ∷ []; names = codes "main" ∷ []; graph = Some ([]) ∷ []; main = 0 }) false
    ((record { chain = []; pos = at 1 29; kind = kinds.ReadOnly; check = check kinds.ReadOnly (pos 0) (pos 0) 0 0; shown = shows.One (record { any = false; null = false; dead = false; names = 1 ∷ []; lo = Some (pos 0); hi = Some (pos 0); modulus = pos 1; rem = pos 0 }); example = examples.Point (spots.At 1 (pos 0)); facts = [] })
    ∷ [])
    ≡ codes "a.c:1:29: ReadOnly in main\n  shown: pointer in {string@1:24(3)} with offset in [0,0]\n  example: string@1:24+0\nalarms 1\n"
unfolding alarm_text joined_on named_from phrase_text digits
row_23 = refl

-- int main(void){int d=__any_int();return 1/d;}
row_24 : text_of (codes "a.c") (record { objects = []; names = codes "main" ∷ []; graph = Some ([]) ∷ []; main = 0 }) false
    ((record { chain = []; pos = at 1 42; kind = kinds.DivideByZero; check = check kinds.DivideByZero (pos 0) (pos 0) 0 0; shown = shows.Number (Some (negsuc 2147483647)) (Some (pos 2147483647)) (pos 1) (pos 0); example = examples.Number (pos 0); facts = [] })
    ∷ [])
    ≡ codes "a.c:1:42: DivideByZero in main\n  shown: value in [-2147483648,2147483647]; allowed not 0\n  example: 0\nalarms 1\n"
unfolding alarm_text joined_on named_from phrase_text digits
row_24 = refl

-- int f(void){}int main(void){return f();}
row_25 : text_of (codes "a.c") (record { objects = []; names = codes "main" ∷ []; graph = Some ([]) ∷ []; main = 0 }) false
    ((record { chain = []; pos = at 1 36; kind = kinds.NoValue; check = check kinds.NoValue (pos 0) (pos 0) 0 0; shown = shows.Ends false true; example = examples.Nothing; facts = [] })
    ∷ [])
    ≡ codes "a.c:1:36: NoValue in main\n  shown: end may be none\n  example: none\nalarms 1\n"
unfolding alarm_text joined_on named_from phrase_text digits
row_25 = refl

-- int a,b;int main(void){return &a<&b;}
row_26 : text_of (codes "a.c") (record { objects = object (codes "a") (at 1 5) (Int ints.Int) 4 ∷ object (codes "b") (at 1 7) (Int ints.Int) 4 ∷ []; names = codes "main" ∷ []; graph = Some ([]) ∷ []; main = 0 }) false
    ((record { chain = []; pos = at 1 33; kind = kinds.Unrelated; check = check kinds.Unrelated (pos 0) (pos 0) 1 0; shown = shows.Pair (record { any = false; null = false; dead = false; names = 0 ∷ []; lo = Some (pos 0); hi = Some (pos 0); modulus = pos 1; rem = pos 0 }) (record { any = false; null = false; dead = false; names = 1 ∷ []; lo = Some (pos 0); hi = Some (pos 0); modulus = pos 1; rem = pos 0 }); example = examples.Points (spots.At 0 (pos 0)) (spots.At 1 (pos 0)); facts = [] })
    ∷ [])
    ≡ codes "a.c:1:33: Unrelated in main\n  shown: left pointer in {a@1:5(4)} with offset in [0,0]; right pointer in {b@1:7(4)} with offset in [0,0]\n  example: a@1:5+0, b@1:7+0\nalarms 1\n"
unfolding alarm_text joined_on named_from phrase_text digits
row_26 = refl

-- int g(int x){return 10/x;}int main(void){return g(2)+g(0);}
row_27 : text_of (codes "a.c") (record { objects = []; names = codes "g" ∷ codes "main" ∷ []; graph = Some ([]) ∷ Some (call (at 1 49) 0 ∷ call (at 1 54) 0 ∷ []) ∷ []; main = 1 }) false
    ((record { chain = at 1 54 ∷ []; pos = at 1 23; kind = kinds.DivideByZero; check = check kinds.DivideByZero (pos 0) (pos 0) 0 0; shown = shows.Number (Some (pos 0)) (Some (pos 0)) (pos 1) (pos 0); example = examples.Number (pos 0); facts = [] })
    ∷ [])
    ≡ codes "a.c:1:23: DivideByZero in main > g@1:54\n  shown: value in [0,0]; allowed not 0\n  example: 0\nalarms 1\n"
unfolding alarm_text joined_on named_from phrase_text digits
row_27 = refl

-- int main(void){char b[8];int *p=(int*)(b+1);*p=0;return 0;}
row_28 : text_of (codes "a.c") (record { objects = object (codes "b") (at 1 21) (Array (Int ints.Char) false 8) 8 ∷ []; names = codes "main" ∷ []; graph = Some ([]) ∷ []; main = 0 }) false
    ((record { chain = []; pos = at 1 45; kind = kinds.Alignment; check = check kinds.Alignment (pos 0) (pos 0) 4 4; shown = shows.One (record { any = false; null = false; dead = false; names = 0 ∷ []; lo = Some (pos 1); hi = Some (pos 1); modulus = pos 1; rem = pos 0 }); example = examples.Point (spots.At 0 (pos 1)); facts = [] })
    ∷ [])
    ≡ codes "a.c:1:45: Alignment in main\n  shown: pointer in {b@1:21(8)} with offset in [1,1]; access of 4 bytes aligned to 4\n  example: b@1:21+1\nalarms 1\n"
unfolding alarm_text joined_on named_from phrase_text digits
row_28 = refl

-- --state: int main(void){int i=3;return 1/(i-3);}
row_30 : text_of (codes "a.c") (record { objects = object (codes "i") (at 1 20) (Int ints.Int) 4 ∷ []; names = codes "main" ∷ []; graph = Some ([]) ∷ []; main = 0 }) true
    ((record { chain = []; pos = at 1 32; kind = kinds.DivideByZero; check = check kinds.DivideByZero (pos 0) (pos 0) 0 0; shown = shows.Number (Some (pos 0)) (Some (pos 0)) (pos 1) (pos 0); example = examples.Number (pos 0); facts = facts.Between (cell 0 0 4) (pos 3) (pos 3) ∷ [] })
    ∷ [])
    ≡ codes "a.c:1:32: DivideByZero in main\n  shown: value in [0,0]; allowed not 0\n  example: 0\n  fact: i@1:20 in [3,3]\nalarms 1\n"
unfolding alarm_text joined_on named_from phrase_text digits
row_30 = refl

-- int main(void){int i;for(i=0;i<10;i++);__assert(i==10);return 0;}
row_31 : text_of (codes "a.c") (record { objects = []; names = codes "main" ∷ []; graph = Some ([]) ∷ []; main = 0 }) false
    ((record { chain = []; pos = at 1 40; kind = kinds.AssertFailed; check = check kinds.AssertFailed (pos 0) (pos 0) 0 0; shown = shows.Number (Some (pos 0)) (Some (pos 1)) (pos 1) (pos 0); example = examples.Number (pos 0); facts = [] })
    ∷ [])
    ≡ codes "a.c:1:40: AssertFailed in main\n  shown: value in [0,1]; allowed not 0\n  example: 0\nalarms 1\n"
unfolding alarm_text joined_on named_from phrase_text digits
row_31 = refl

-- two alarms, a chain of two calls, missing bounds, a class, any, and objects by number
two_alarms : text_of (codes "a.c") (record { objects = object (codes "a") (at 1 5) (Int ints.Int) 4 ∷ object (codes "b") (at 1 7) (Int ints.Int) 4 ∷ []; names = codes "g" ∷ codes "f" ∷ codes "main" ∷ []; graph = Some ([]) ∷ Some (call (at 1 40) 0 ∷ []) ∷ Some (call (at 1 55) 0 ∷ call (at 1 60) 1 ∷ []) ∷ []; main = 2 }) false
    ((record { chain = at 1 60 ∷ at 1 40 ∷ []; pos = at 1 23; kind = kinds.DivideByZero; check = check kinds.DivideByZero (pos 0) (pos 0) 0 0; shown = shows.Number (None) (None) (pos 3) (pos 1); example = examples.Number (pos 0); facts = [] })
    ∷ (record { chain = []; pos = at 2 7; kind = kinds.NullUse; check = check kinds.NullUse (pos 0) (pos 0) 0 0; shown = shows.Pair (record { any = true; null = false; dead = false; names = []; lo = None; hi = None; modulus = pos 1; rem = pos 0 }) (record { any = false; null = true; dead = true; names = 1 ∷ 0 ∷ []; lo = Some (negsuc 3); hi = None; modulus = pos 4; rem = pos 0 }); example = examples.Points spots.Null (spots.At 1 (negsuc 3)); facts = [] })
    ∷ [])
    ≡ codes "a.c:1:23: DivideByZero in main > f@1:60 > g@1:40\n  shown: value in [-inf,inf] and = 1 mod 3; allowed not 0\n  example: 0\na.c:2:7: NullUse in main\n  shown: left pointer in any with offset in [-inf,inf]; right pointer in {a@1:5(4), b@1:7(4), null, dead} with offset in [-4,inf] and = 0 mod 4\n  example: null, b@1:7+-4\nalarms 2\n"
unfolding alarm_text joined_on named_from phrase_text digits
two_alarms = refl

-- --state: each form of a fact, a part of an object, and a part of a scalar
facts_of_all_forms : text_of (codes "a.c") (record { objects = object (codes "x") (at 1 5) (Int ints.Int) 4 ∷ object (codes "y") (at 1 7) (Int ints.Int) 4 ∷ object (codes "a") (at 1 9) (Array (Int ints.Int) false 3) 12 ∷ object (codes "p") (at 2 6) (Pointer (Int ints.Int) false) 8 ∷ []; names = codes "main" ∷ []; graph = Some ([]) ∷ []; main = 0 }) true
    ((record { chain = []; pos = at 1 32; kind = kinds.DivideByZero; check = check kinds.DivideByZero (pos 0) (pos 0) 0 0; shown = shows.Number (Some (pos 0)) (Some (pos 0)) (pos 1) (pos 0); example = examples.Number (pos 0); facts = facts.Class (cell 0 0 4) (pos 1) (pos 2) ∷ facts.AtMost (pos 1) (cell 0 0 4) (negsuc 0) (cell 1 0 4) (negsuc 4) ∷ facts.AtMost (negsuc 0) (cell 0 0 4) (pos 1) (cell 1 0 4) (pos 0) ∷ facts.AtMost (pos 1) (cell 0 0 4) (pos 1) (cell 1 0 4) (pos 9) ∷ facts.AtMost (negsuc 0) (cell 0 0 4) (negsuc 0) (cell 1 0 4) (pos 9) ∷ facts.Between (cell 2 4 2) (negsuc 0) (pos 7) ∷ facts.Between (cell 0 0 2) (pos 0) (pos 7) ∷ facts.PointsTo (cell 3 0 8) (record { any = false; null = true; dead = false; names = 0 ∷ []; lo = Some (pos 0); hi = Some (pos 0); modulus = pos 1; rem = pos 0 }) ∷ [] })
    ∷ [])
    ≡ codes "a.c:1:32: DivideByZero in main\n  shown: value in [0,0]; allowed not 0\n  example: 0\n  fact: x@1:5 = 1 mod 2\n  fact: x@1:5 - y@1:7 <= -5\n  fact: y@1:7 - x@1:5 <= 0\n  fact: x@1:5 + y@1:7 <= 9\n  fact: -x@1:5 - y@1:7 <= 9\n  fact: a@1:9+4:2 in [-1,7]\n  fact: x@1:5+0:2 in [0,7]\n  fact: p@2:6 in {x@1:5(4), null} with offset in [0,0]\nalarms 1\n"
unfolding alarm_text joined_on named_from phrase_text digits
facts_of_all_forms = refl

-- the same without --state
facts_not_asked : text_of (codes "a.c") (record { objects = object (codes "i") (at 1 20) (Int ints.Int) 4 ∷ []; names = codes "main" ∷ []; graph = Some ([]) ∷ []; main = 0 }) false
    ((record { chain = []; pos = at 1 32; kind = kinds.DivideByZero; check = check kinds.DivideByZero (pos 0) (pos 0) 0 0; shown = shows.Number (Some (pos 0)) (Some (pos 0)) (pos 1) (pos 0); example = examples.Number (pos 0); facts = facts.Between (cell 0 0 4) (pos 3) (pos 3) ∷ [] })
    ∷ [])
    ≡ codes "a.c:1:32: DivideByZero in main\n  shown: value in [0,0]; allowed not 0\n  example: 0\nalarms 1\n"
unfolding alarm_text joined_on named_from phrase_text digits
facts_not_asked = refl
