-- Why the lines of an item are not all written.
use Rattle.std.proofs.Common.{ℕ, List, Option, inl}
use Rattle.cbor_head.specs.{Prelude.Bounds, declared.reason.Refusal.Refusal}
use Rattle.cbor_listing.specs.Listing as listing
use Rattle.cbor_listing.specs.Annotated as annotating
use Rattle.cbor_listing.specs.{Listing.IsUnlisted, Annotated.IsUnannotated}
use Rattle.cborc_words.specs.declared.request.EventStyle.{TheVariants.Listed, TheVariants.Annotated, EventStyle}
use Rattle.cborc_commands.specs.EventStyles.{AreUnlisted, of_verdict, of_reader, of_writer}
use Rattle.cborc_commands.specs.declared.fault.Fault.TheVariants as faults
use Rattle.cborc_commands.specs.{inner.Listed.IsPrefixNotListed, declared.fault.Fault.Fault, Events.IsNotListed}

pub prefix_not_listed : (style : EventStyle) (limits : Bounds) (bytes : List ℕ) (old new : Option (List ℕ)) (fault : Fault) → IsPrefixNotListed style 0 limits bytes old new fault → IsNotListed style limits bytes old new fault
prefix_not_listed style limits bytes old new (faults.Refused f) (own, reported, h, l) = (own, reported, inl (h, l))
prefix_not_listed style limits bytes old new faults.CannotPrint h = h
prefix_not_listed style limits bytes old new faults.Memory h = h
prefix_not_listed style limits bytes old new _ h = absurd h

-- ---- what was written, in either style

module _ (start : ℕ) (limits : Bounds) (bytes : List ℕ) (f : Refusal) (old new : Option (List ℕ)) where
  pub unlisted : IsUnlisted start limits bytes f old new → AreUnlisted Listed start limits bytes f old new
  unlisted (listing.of_verdict out v l a) = of_verdict out v l a
  unlisted (listing.of_reader out e v l a) = of_reader out e v l a
  unlisted (listing.of_writer out e l a) = of_writer out e l a

  pub unannotated : IsUnannotated start limits bytes f old new → AreUnlisted Annotated start limits bytes f old new
  unannotated (annotating.of_verdict out v l a) = of_verdict out v l a
  unannotated (annotating.of_reader out e v l a) = of_reader out e v l a
  unannotated (annotating.of_writer out e l a) = of_writer out e l a
