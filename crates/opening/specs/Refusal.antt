-- The number and the layer of each refusal, and a method's refusal as one of them.
use Rattle.std.specs.Prelude.{ℕ}
use Rattle.methods.specs.declared.refusal.MethodRefusal.{MethodRefusal}
use Rattle.methods.specs.declared.refusal.MethodRefusal.TheVariants as method
use Rattle.opening.specs.declared.refusal.Refusal.{Refusal}
use Rattle.opening.specs.declared.refusal.Refusal.TheVariants.{WorkSpace, Missing, NotStandard, OtherV, BadTable, ShortLength, LateR, LongLength, EarlyR, USpace, WrongPassword, Unresolved, KeyLength, Closed, NoSpace, TooShort}
use Rattle.opening.specs.declared.refusal.Layer.{Layer}
use Rattle.opening.specs.declared.refusal.Layer.TheVariants.{File, Object, Method}

-- the numbers, by which the refusals are known outside
abbrev pub number_of : Refusal → ℕ
number_of WorkSpace = 1
number_of (Missing f) = 2
number_of NotStandard = 3
number_of OtherV = 4
number_of (BadTable i) = 5
number_of ShortLength = 6
number_of LateR = 7
number_of LongLength = 8
number_of EarlyR = 9
number_of USpace = 10
number_of WrongPassword = 11
number_of Unresolved = 12
number_of KeyLength = 13
number_of Closed = 14
number_of NoSpace = 15
number_of TooShort = 16

-- 1 to 11 speak of the file, 12, 14 and 15 of the object, 13 and 16 of the method
abbrev pub layer_of : Refusal → Layer
layer_of WorkSpace = File
layer_of (Missing f) = File
layer_of NotStandard = File
layer_of OtherV = File
layer_of (BadTable i) = File
layer_of ShortLength = File
layer_of LateR = File
layer_of LongLength = File
layer_of EarlyR = File
layer_of USpace = File
layer_of WrongPassword = File
layer_of Unresolved = Object
layer_of KeyLength = Method
layer_of Closed = Object
layer_of NoSpace = Object
layer_of TooShort = Method

-- a method's refusal as one of the refusals of all layers
abbrev pub lifted : MethodRefusal → Refusal
lifted method.KeyLength = KeyLength
lifted method.TooShort = TooShort
