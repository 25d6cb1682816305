-- How a look at a registry ends.
use Rattle.std.proofs.Common.{◌≡◌, ◌≢◌, ℕ, List, [], Option, Err, inl, inr, arith}
use Rattle.std.specs.Prelude.{◌⊎◌}
use Rattle.rio_base.specs.Failures.{Rose}
use Rattle.rio_base.specs.Hosts.{Files, IsAbsent}
use Rattle.request_codec.specs.Sending.{Sends}
use Rattle.request_codec.proofs.Sendings.{sends_cut}
use Rattle.rio_commands.specs.declared.ends.RegistryEnd.{RegistryEnd}
use Rattle.rio_commands.specs.declared.ends.RegistryEnd.TheVariants.{Listed, Refused, Absent, HostFault, SinkFault, Memory}
use Rattle.rio_commands.specs.RegistryLines.{registry_status}
use Rattle.rio_commands.specs.Registry.{CutListing, EndsAs, Lists, registry_text}

-- ---- what was sent

pub cut_listing : {T E : Type 0} {e : E} {a : Option (List ℕ)} {f : ℕ} (words : List ℕ) {b : Option (List ℕ)} {f1 : ℕ} → Sends {T = T} (Err e) a f [] (registry_text words) b f1 [] → CutListing words (Rose f f1) a b
cut_listing words s =
    let cut = sends_cut s in
    record { cause = s.err.rose; count = cut.0; most = cut.1; front = cut.2 }

-- ---- what a run says of its status

pub fault_of : (image : List ℕ) (status : ℕ) (host_rose sink_rose : Type 0) (files : Option Files) (written written_now : Option (List ℕ))
    → Lists image status host_rose sink_rose files written written_now → status ≡ 7 → host_rose ⊎ IsAbsent files image
fault_of image status host_rose sink_rose files written written_now lists is = at lists.end lists.status_is lists.ends
  where
    at : (e : RegistryEnd) → status ≡ registry_status e → EndsAs e image host_rose sink_rose files written written_now → host_rose ⊎ IsAbsent files image
    at Listed s ends = absurd (omega (arith, s, is))
    at (Refused rule) s ends = absurd (omega (arith, s, is))
    at Memory s ends = absurd (omega (arith, s, is))
    at Absent s ends = inr ends.0
    at HostFault s ends = inl ends.0
    at SinkFault s ends = absurd (omega (arith, s, is))

-- a status that no look at a registry has
pub no_status : (image : List ℕ) (status : ℕ) (host_rose sink_rose : Type 0) (files : Option Files) (written written_now : Option (List ℕ))
    → Lists image status host_rose sink_rose files written written_now → (status ≢ 2) × (status ≢ 8) × (status ≢ 11)
no_status image status host_rose sink_rose files written written_now lists = at lists.end lists.status_is
  where
    at : (e : RegistryEnd) → status ≡ registry_status e → (status ≢ 2) × (status ≢ 8) × (status ≢ 11)
    at Listed s = (λ e. omega (arith, s, e), λ e. omega (arith, s, e), λ e. omega (arith, s, e))
    at (Refused rule) s = (λ e. omega (arith, s, e), λ e. omega (arith, s, e), λ e. omega (arith, s, e))
    at Memory s = (λ e. omega (arith, s, e), λ e. omega (arith, s, e), λ e. omega (arith, s, e))
    at Absent s = (λ e. omega (arith, s, e), λ e. omega (arith, s, e), λ e. omega (arith, s, e))
    at HostFault s = (λ e. omega (arith, s, e), λ e. omega (arith, s, e), λ e. omega (arith, s, e))
    at SinkFault s = (λ e. omega (arith, s, e), λ e. omega (arith, s, e), λ e. omega (arith, s, e))

-- a listing that was cut, and what comes without a cause
pub listing_cut : (image : List ℕ) (status : ℕ) (host_rose sink_rose : Type 0) (files : Option Files) (written written_now : Option (List ℕ))
    → Lists image status host_rose sink_rose files written written_now → status ≡ 9 → sink_rose
listing_cut image status host_rose sink_rose files written written_now lists is = at lists.end lists.status_is lists.ends
  where
    at : (e : RegistryEnd) → status ≡ registry_status e → EndsAs e image host_rose sink_rose files written written_now → sink_rose
    at Listed s ends = absurd (omega (arith, s, is))
    at (Refused rule) s ends = absurd (omega (arith, s, is))
    at Memory s ends = absurd (omega (arith, s, is))
    at Absent s ends = absurd (omega (arith, s, is))
    at HostFault s ends = absurd (omega (arith, s, is))
    at SinkFault s ends = ends.2.cause

pub listing_complete : (image : List ℕ) (status : ℕ) (host_rose sink_rose : Type 0) (files : Option Files) (written written_now : Option (List ℕ))
    → Lists image status host_rose sink_rose files written written_now → ¬ host_rose → ¬ sink_rose
    → (status ≡ 0) ⊎ (status ≡ 3) ⊎ (status ≡ 6) ⊎ ((status ≡ 7) × IsAbsent files image)
listing_complete image status host_rose sink_rose files written written_now lists no_host no_sink = at lists.end lists.status_is lists.ends
  where
    at : (e : RegistryEnd) → status ≡ registry_status e → EndsAs e image host_rose sink_rose files written written_now → (status ≡ 0) ⊎ (status ≡ 3) ⊎ (status ≡ 6) ⊎ ((status ≡ 7) × IsAbsent files image)
    at Listed s ends = inl s
    at (Refused rule) s ends = inr (inl s)
    at Memory s ends = inr (inr (inl s))
    at Absent s ends = inr (inr (inr (s, ends.0)))
    at HostFault s ends = absurd (no_host ends.0)
    at SinkFault s ends = absurd (no_sink ends.2.cause)
