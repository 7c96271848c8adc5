-- An operation on ends that rises or falls in each operand lies between its values at the corners.
use Rattle.std.proofs.Common.{◌⊎◌, ⊎_elim}
use Rattle.ext_int.specs.declared.Ext.{Ext}
use Rattle.ext_int.specs.Ext.{AtMost, lesser, greater, least_of, greatest_of}
use Rattle.ext_int.proofs.Ends.{AtMost_trans, lesser_first, lesser_second, lesser_mono, greater_first, greater_second, greater_mono}

-- the function keeps the order of the ends that are in D, or turns it round
abbrev pub Rises : (Ext → Type 0) → (Ext → Ext) → Type 0
Rises D f = (a b : Ext) → D a → D b → AtMost a b → AtMost (f a) (f b)

abbrev pub Falls : (Ext → Type 0) → (Ext → Ext) → Type 0
Falls D f = (a b : Ext) → D a → D b → AtMost a b → AtMost (f b) (f a)

-- between two ends it is not below the lesser of its values there, and not above the greater
pub one_end_low : (D : Ext → Type 0) (f : Ext → Ext) → (Rises D f ⊎ Falls D f) → (a x b : Ext) → D a → D x → D b → AtMost a x → AtMost x b → AtMost (lesser (f a) (f b)) (f x)
one_end_low D f way a x b u v w h k = ⊎_elim
    (λ (rises : Rises D f). AtMost_trans _ (f a) (f x) (lesser_first (f a) (f b)) (rises a x u v h))
    (λ (falls : Falls D f). AtMost_trans _ (f b) (f x) (lesser_second (f a) (f b)) (falls x b v w k))
    way

pub one_end_high : (D : Ext → Type 0) (f : Ext → Ext) → (Rises D f ⊎ Falls D f) → (a x b : Ext) → D a → D x → D b → AtMost a x → AtMost x b → AtMost (f x) (greater (f a) (f b))
one_end_high D f way a x b u v w h k = ⊎_elim
    (λ (rises : Rises D f). AtMost_trans (f x) (f b) _ (rises x b v w k) (greater_second (f a) (f b)))
    (λ (falls : Falls D f). AtMost_trans (f x) (f a) _ (falls a x u v h) (greater_first (f a) (f b)))
    way

-- any end
abbrev pub AnyEnd : Ext → Type 0
AnyEnd e = Unit {0}

module _ (op : Ext → Ext → Ext) (D : Ext → Type 0) (rows : (e : Ext) → Rises D (op e) ⊎ Falls D (op e)) (columns : (e : Ext) → D e → Rises AnyEnd (λ x. op x e) ⊎ Falls AnyEnd (λ x. op x e)) where
  pub corners_low : (a b c d x y : Ext) → AtMost a x → AtMost x b → AtMost c y → AtMost y d → D c → D y → D d → AtMost (least_of (op a c) (op a d) (op b c) (op b d)) (op x y)
  corners_low a b c d x y h k i j u v w =
      AtMost_trans _ (lesser (op a y) (op b y)) (op x y)
      (lesser_mono _ _ (op a y) (op b y) (one_end_low D (op a) (rows a) c y d u v w i j) (one_end_low D (op b) (rows b) c y d u v w i j))
      (one_end_low AnyEnd (λ e. op e y) (columns y v) a x b tt tt tt h k)

  pub corners_high : (a b c d x y : Ext) → AtMost a x → AtMost x b → AtMost c y → AtMost y d → D c → D y → D d → AtMost (op x y) (greatest_of (op a c) (op a d) (op b c) (op b d))
  corners_high a b c d x y h k i j u v w =
      AtMost_trans (op x y) (greater (op a y) (op b y)) _
      (one_end_high AnyEnd (λ e. op e y) (columns y v) a x b tt tt tt h k)
      (greater_mono (op a y) (op b y) _ _ (one_end_high D (op a) (rows a) c y d u v w i j) (one_end_high D (op b) (rows b) c y d u v w i j))
