-- An input that is read in parts.
use Rattle.std.proofs.Common.{ℕ, ◌+◌, ◌*◌, ◌≡◌, ◌<◌, ◌⊎◌, inl, inr, Bool, true, false, Option, List, [], ◌++◌, length, drop, refl, sym, ap, ◌∙◌, arith, subst, append_assoc, append-nil, length-append}
use Rattle.std.proofs.Math.Seq.{drop-append_seam}
use Rattle.cbor_head.specs.Prelude.{Rules}
use Rattle.cborc_files.specs.Folder.{Files, KeepsFiles}
use Rattle.cborc_words.specs.declared.request.Options.{Options}
use Rattle.cborc_commands.specs.inner.Parts.{PartsView, IsReadTo, IsNextPart}
use Rattle.cborc_commands.specs.inner.Sources.{HasGiven, IsFresh, IsPartAdded, IsNoPart, StartsInputAt, HasInput, HasNoInput}
use Rattle.cborc_commands.proofs.Sources.{given_further, first_given, prefix_given, no_fewer, input_known, no_part, unread, unread_less}
use Rattle.cborc_commands.specs.{Input.IsInput, Input.IsPrefix, inner.Decided.IsDecided, NoInput.IsNoInput, declared.fault.Fault.Fault}
use Rattle.cborc_commands.specs.{declared.source.Source.Source, inner.Start.StartsInput}

-- the first part
pub first_part : (held : Option Files) (path : List ℕ) (hex : Bool) (old new : PartsView) → old.rest ≡ [] → old.start ≡ 0 → IsFresh hex old.source → IsNextPart held path old new
    → IsReadTo held path hex [] new
first_part held path hex old new none zero fresh n = record {
  given = first_given held path hex old.source new.source new.rest fresh
      (subst (λ (xs : List ℕ). IsPartAdded held path old.source new.source xs new.rest) none n.added);
  start_is = n.start_is ∙ zero;
  hex_is = n.added.hex_is ∙ fresh.hex_is;
}

module _ (held now : Option Files) (path : List ℕ) (hex : Bool) (taken : List ℕ) (old new : PartsView) (keeps : KeepsFiles held now) (r : IsReadTo held path hex taken old) where
  pub next_part : IsNextPart now path old new → IsReadTo held path hex taken new
  next_part n =
      let m = given_further held now path old.source new.source (taken ++ old.rest) old.rest new.rest keeps r.given n.added in
      record {
        given = subst (HasGiven held path new.source) (append_assoc taken old.rest m.0 ∙ ap (λ (xs : List ℕ). taken ++ xs) (sym m.1)) m.2;
        start_is = n.start_is ∙ r.start_is;
        hex_is = n.added.hex_is ∙ r.hex_is;
      }

  -- the first bytes of the rest were consumed
  pub took : (prefix left : List ℕ) → prefix ++ left ≡ old.rest → new.rest ≡ drop (length prefix) old.rest → new.start ≡ old.start + length prefix → new.source ≡ old.source
      → IsReadTo held path hex (taken ++ prefix) new
  took prefix left e rest start same =
      let left-is : new.rest ≡ left = rest ∙ ap (drop (length prefix)) (sym e) ∙ drop-append_seam prefix left in
      let bytes : taken ++ old.rest ≡ (taken ++ prefix) ++ new.rest =
      ap (λ (xs : List ℕ). taken ++ xs) (sym e) ∙ sym (append_assoc taken prefix left) ∙ ap (λ (xs : List ℕ). (taken ++ prefix) ++ xs) (sym left-is) in
      record {
        given = subst (λ (s : Source). HasGiven held path s ((taken ++ prefix) ++ new.rest)) (sym same) (subst (HasGiven held path old.source) bytes r.given);
        start_is = omega (arith, start, r.start_is, length-append taken prefix);
        hex_is = ap (λ (s : Source). s.hex) same ∙ r.hex_is;
      }

-- of its prefix
pub prefix_there : (held : Option Files) (path : List ℕ) (hex : Bool) (taken : List ℕ) (p : PartsView) → IsReadTo held path hex taken p → IsPrefix held path hex (taken ++ p.rest)
prefix_there held path hex taken p r =
    subst (λ (b : Bool). IsPrefix held path b (taken ++ p.rest)) r.hex_is (prefix_given held path p.source (taken ++ p.rest) r.given)

-- of the input
module _ (held now : Option Files) (path : List ℕ) (hex : Bool) (taken : List ℕ) (p : PartsView) (keeps : KeepsFiles held now) (r : IsReadTo held path hex taken p) where
  pub input_ended : p.source.ended ≡ true → IsInput held path hex (taken ++ p.rest)
  input_ended e =
      let k = input_known held path p.source (taken ++ p.rest) r.given (inl e) in
      subst (λ (b : Bool). IsInput held path b (taken ++ p.rest)) r.hex_is
      (subst (IsInput held path p.source.hex) (ap (λ (xs : List ℕ). (taken ++ p.rest) ++ xs) (k.end e) ∙ append-nil (taken ++ p.rest)) k.is)

  pub input_there : HasInput now path p.source → StartsInputAt held path hex (taken ++ p.rest) p.source.ended
  input_there h = subst (λ (b : Bool). StartsInputAt held path b (taken ++ p.rest) p.source.ended) r.hex_is (h held (taken ++ p.rest) keeps r.given)

  pub no_input_there : (fault : Fault) → HasNoInput now path p.source fault → IsNoInput held path hex fault
  no_input_there fault h = subst (λ (b : Bool). IsNoInput held path b fault) r.hex_is (h held (taken ++ p.rest) keeps r.given)

  pub no_next_part : (fault : Fault) → IsNoPart now path p.source fault → IsNoInput held path hex fault
  no_next_part fault h = subst (λ (b : Bool). IsNoInput held path b fault) r.hex_is (no_part held now path p.source (taken ++ p.rest) keeps r.given fault h)

-- the bytes that were read so far, where that is enough
pub parts_enough : (rules : Rules) (held now : Option Files) (path : List ℕ) (options : Options) (p : PartsView) → KeepsFiles held now → IsReadTo held path options.hex [] p → HasInput now path p.source
    → (p.source.ended ≡ true) ⊎ IsDecided rules options.limits p.rest → (bytes : List ℕ) → bytes ≡ p.rest → StartsInput rules held path options bytes
parts_enough rules held now path options p keeps r h ends bytes same =
    let k = input_there held now path options.hex [] p keeps r h in
    subst (StartsInput rules held path options) (sym same) (record {
      input = p.rest ++ k.following;
      is = k.is;
      following = k.following;
      splits = refl;
      enough = elim ends [ inl e ↦ inl (k.end e) | inr d ↦ inr d ];
    })

-- ---- what becomes less

-- of what may be read and what was read, the one twice
abbrev pub weight : PartsView → ℕ
weight p = 2 * unread p.source + length p.rest

pub read_less : (now : Option Files) (path : List ℕ) (old new : PartsView) → old.source.ended ≡ false → IsNextPart now path old new → weight new < weight old
read_less now path old new live n =
    let less = unread_less now path old.rest new.rest old.source new.source n.added live n.range in
    omega (arith, less.0, less.1, (no_fewer old.source.hex n.added.part old.rest new.rest old.source.digits new.source.digits n.added.adds).1)
