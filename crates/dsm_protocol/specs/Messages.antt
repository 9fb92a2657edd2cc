-- Lists of messages, without their stamps.
use Rattle.std.specs.Prelude.{◌≡◌, ℕ, ◌<◌, List, ◌∷◌}
use Rattle.home_directory.specs.dsm_messages.declared.messages.Message.{Message}
use Rattle.home_directory.specs.dsm_messages.declared.messages.Post.{Post}
use Rattle.message_queues.specs.Queue.{Queue, list_of}
use Rattle.dsm_protocol.specs.World.{with_list, with_sends}

-- the same is on its way
abbrev pub SameMessages : List Queue → List Queue → ℕ → Type 0
SameMessages old new n =
    (j i : ℕ) → j < n → i < n → list_of new n j i ≡ list_of old n j i

-- node j has sent these
abbrev pub AreSent : List Queue → List Queue → (n j : ℕ) → List Post → Type 0
AreSent old new n j posts = (x i : ℕ) → x < n → i < n
    → list_of new n x i ≡ with_sends (list_of old n) j posts x i

-- the first from j to i was taken
pub record IsMessageTaken (old new : List Queue) (n j i : ℕ) (m : Message) : Type 0 where
  pub first : list_of old n j i ≡ m ∷ list_of new n j i
  pub others : (x y : ℕ) → x < n → y < n
      → list_of new n x y ≡ with_list (list_of old n) j i (list_of new n j i) x y
