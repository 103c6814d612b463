-- The files after one path got a file.
use Rattle.std.proofs.Common.{ℕ, ◌≡◌, ◌≢◌, ◌∙◌, ap, refl, Bool, true, false, cond, List, Option, Some, option_map, sym}
use Rattle.std.{specs.Map.update, specs.Str.bytes_eq, proofs.lemmas.Bool.false_from_ne_true, proofs.lemmas.Slice.Eq.bytes_eq-Decides}
use Rattle.cborc_files.specs.Folder.{ReplacesFile}

module _ {V : Type 0} (items : V → List ℕ) (old new : List ℕ → Option V) (path : List ℕ) (file : V) (sets : (q : List ℕ) → new q ≡ update bytes_eq old path (Some file) q) where
  here : new path ≡ Some file
  here =
      let same : bytes_eq path path ≡ true = (bytes_eq-Decides path path).1 refl in
      sets path ∙ ap (λ (b : Bool). cond b (Some file) (old path)) same

  elsewhere : (other : List ℕ) → other ≢ path → new other ≡ old other
  elsewhere other apart =
      let differs : bytes_eq path other ≡ false = false_from_ne_true (bytes_eq path other) (λ e. apart (sym ((bytes_eq-Decides path other).0 e))) in
      sets other ∙ ap (λ (b : Bool). cond b (Some file) (old other)) differs

  pub replaces : (bytes : List ℕ) → items file ≡ bytes → ReplacesFile (Some (λ q. option_map items (old q))) (Some (λ q. option_map items (new q))) path bytes
  replaces bytes e = (ap (option_map items) here ∙ ap Some e, λ other apart. ap (option_map items) (elsewhere other apart))
