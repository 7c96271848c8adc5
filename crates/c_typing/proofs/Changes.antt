-- Which changes of a world a part of the text may make.
use Rattle.c_typing.specs.World.{Meaning, Enumeration}

-- an expression declares enumeration constants and structs alone; in a list of parameters other names are declared, which its scope ends; a declaration may make any
pub data Changes : Type 0 where
  Constants : Changes
  Names : Changes
  Any : Changes

-- inside of a scope
abbrev pub within : Changes → Changes
within Constants = Names
within Names = Names
within Any = Any

abbrev pub MayName : Changes → Meaning → Type 0
MayName Constants (Enumeration n) = Unit {0}
MayName Constants m = ⊥
MayName Names m = Unit {0}
MayName Any m = Unit {0}

pub may_constant : (c : Changes) (n : _) → MayName c (Enumeration n)
may_constant Constants n = tt
may_constant Names n = tt
may_constant Any n = tt

-- any name may be declared
abbrev pub NamesAny : Changes → Type 0
NamesAny c = (m : Meaning) → MayName c m

pub names_within : (c : Changes) → NamesAny (within c)
names_within Constants m = tt
names_within Names m = tt
names_within Any m = tt

pub names_any : NamesAny Any
names_any m = tt
