pub mod ServedScenes
