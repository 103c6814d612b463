-- Which bytes an item may begin with (RFC 8949, section 3 and appendix F).
use Rattle.std.specs.Prelude.{◌≡◌, ℕ, ◌%◌, ◌<◌, ◌≤◌, ◌⊎◌, Bool, true, false}
use Rattle.cbor_head.specs.declared.reason.Reason.TheVariants.{Reserved, NoIndefinite, Float}
use Rattle.cbor_head.specs.declared.reason.Reason.TheVariants.{StrayBreak, TooDeep}
use Rattle.cbor_head.specs.declared.reason.Reason.{Reason}

-- why no item may begin with this byte; the flag says whether one more array, map or tag may open
abbrev pub IsInitialByteError : ℕ → Bool → Reason → Type 0
IsInitialByteError first space Reserved = (28 ≤ first % 32) × (first % 32 < 31)
IsInitialByteError first space NoIndefinite = (first % 32 ≡ 31) × ((first < 64) ⊎ ((192 ≤ first) × (first < 224)))
IsInitialByteError first space Float = (249 ≤ first) × (first ≤ 251)
IsInitialByteError first space StrayBreak = first ≡ 255
IsInitialByteError first space TooDeep = (space ≡ false) × (128 ≤ first) × (first < 224) × ((first % 32 < 28) ⊎ ((first % 32 ≡ 31) × (first < 192)))
IsInitialByteError first space _ = ⊥

-- a first byte that an item may have there
pub record MayBegin (first : ℕ) (space : Bool) : Type 0 where
  pub low : (first % 32 < 28) ⊎ ((first % 32 ≡ 31) × (64 ≤ first) × (first < 192))
  pub no_float : first < 249
  pub fits : 128 ≤ first → first < 224 → space ≡ true
