-- 13 comes exactly where the buffer is shorter than the listing.
use Rattle.std.proofs.Common.{◌≡◌, ◌≢◌, ℕ, List, Option, Some, None, Ok, Err, Result, is_ok, refl, sym, ap, arith}
use Rattle.std.proofs.lemmas.Bool.{true≢false}
use Rattle.hourfile.specs.declared.faults.FileFault.{FileFault}
use Rattle.hourfile.specs.declared.faults.Cause.TheVariants.{ShortBuffer}
use Rattle.reader.specs.declared.reached.Reached.{Reached}
use Rattle.reader.specs.declared.reached.Reached.TheVariants.{Unopened, Open, Closed, Settled}
use Rattle.listing.specs.Files.{IsListed, EndsExactly, EndsAs, FileEndsExactly}
use Rattle.listing.specs.Listing.{ListingWritten, ShortExactly, listing_of}
use Rattle.listing.specs.declared.errors.ShortBuffer.{ShortBuffer as TooShort}

pub written_exactly : (text before after : List ℕ) (r : Result ℕ TooShort) → ListingWritten text before r after → ShortExactly text before r
written_exactly text before after (Ok n) is = record {
  fits = λ room. ap Ok is.0;
  short = (λ short. absurd (omega (arith, short, is.0, is.1.0)), λ no. absurd (true≢false (sym no)));
}
written_exactly text before after (Err e) is = record {
  fits = λ room. absurd (omega (arith, room, is.0));
  short = (λ short. refl, λ err. is.0);
}

pub listed_exactly : (text before after : List ℕ) (place : ℕ) (end : Result ℕ FileFault) → IsListed text place before end after → EndsExactly text place before end
listed_exactly text before after place (Ok n) is = record {
  fits = λ room. ap Ok is.0;
  short = (λ short. absurd (omega (arith, short, is.0, is.1.0)), λ no. absurd (true≢false (ap is_ok no)));
}
listed_exactly text before after place (Err fault) is = record {
  fits = λ room. absurd (omega (arith, room, is.1.0));
  short = (λ short. ap Err is.0, λ same. is.1.0);
}

-- a fault of the file has another cause than a short buffer
pub ends_exactly : (o : Option FileFault) (reached : Reached) (place : ℕ) (before after : List ℕ) (end : Result ℕ FileFault) → ((fault : FileFault) → o ≡ Some fault → fault.cause ≢ ShortBuffer) → EndsAs o reached place before end after → FileEndsExactly o reached place before end
ends_exactly (Some fault) reached place before after end never is = (is.0, never fault refl)
ends_exactly None (Unopened book) place before after end never is = is
ends_exactly None (Open hour) place before after end never is = is
ends_exactly None (Closed hour) place before after end never is = is
ends_exactly None (Settled hour) place before after end never is = listed_exactly (listing_of hour.book.now.table) before after place end is
