-- The claims about one read, by cases of its answer. Assumes nothing.
use Prim.Native.Nat.{ℕ, zero, suc, min, ◌<◌}
use native.Mathlib.Omega.{arith}
use mathlib.Core.Path.{◌≡◌, refl, ap}
use Rattle.std.proofs.Common.{Ok, Err, Continue, Break}
use Rattle.streams.specs.Reading.{next_of}
use lib.IntN.{pos, negsuc}
use borrow.Author.Tests.{ltb-true}
use Rattle.streams.specs.Claims.{FailedAsRead, FailedBelowZero, EndedAtZero, CameAsCounted, UnreadableAsRead, UnreadableBelowZero}

pub failed_as_read : FailedAsRead
failed_as_read (Ok k) most = (λ e. cc, λ e. cc)
failed_as_read (Err _) most = (λ e. refl, λ e. refl)

pub failed_below_zero : FailedBelowZero
failed_below_zero (pos k) most = (λ e. cc, λ h. absurd (omega (arith, ltb-true k 0 h)))
failed_below_zero (negsuc k) most = (λ e. refl, λ e. refl)

none_at_end : (n done : ℕ) → next_of (Ok n) done ≡ Break (Ok done) → n ≡ 0
none_at_end zero done e = refl
none_at_end (suc n) done e = cc

some : (n done : ℕ) → 0 < n → next_of (Ok n) done ≡ Continue n
some zero done h = absurd (omega arith)
some (suc n) done h = refl

never_unreadable : (n done : ℕ) → next_of (Ok n) done ≡ Break (Err record {}) → ⊥
never_unreadable zero done e = cc
never_unreadable (suc n) done e = cc

pub ended_at_zero : EndedAtZero
ended_at_zero (Ok k) most done h = (λ e. let n = none_at_end (min k most) done e in let z : k ≡ 0 = omega arith in ap Ok z, λ e. let z : k ≡ 0 = cc in let n : min k most ≡ 0 = omega arith in rw n)
ended_at_zero (Err _) most done h = (λ e. cc, λ e. cc)

pub came_as_counted : CameAsCounted
came_as_counted n most done h k = let e : min n most ≡ n = omega arith in rw e (some n done h)

pub unreadable_as_read : UnreadableAsRead
unreadable_as_read (Ok k) most done = (λ e. absurd (never_unreadable (min k most) done e), λ e. cc)
unreadable_as_read (Err _) most done = (λ e. refl, λ e. refl)

pub unreadable_below_zero : UnreadableBelowZero
unreadable_below_zero (pos k) most done = (λ e. absurd (never_unreadable (min k most) done e), λ h. absurd (omega (arith, ltb-true k 0 h)))
unreadable_below_zero (negsuc k) most done = (λ e. refl, λ e. refl)
