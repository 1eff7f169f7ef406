use Rattle.session_laws.proofs.FeedLaws.{feed_session, session_feed}
use Rattle.session_laws.proofs.sessions_print_as_feeds.Goals as goal

pub returns : goal.returns
returns c = record { session = session_feed; feed = feed_session }
